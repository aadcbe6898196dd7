use Rattle.std.proofs.Common.{inl, inr, ⊎_elim}
use Rattle.py_stacks.specs.Frames.{calls_of_result}
use Rattle.native_merge.specs.Merges.{is_python}
use Rattle.native_merge.specs.PythonFrames.{calls}
use Rattle.core_merge.proofs.Chain.{core_merge_once}
use Rattle.core_merge.proofs.thread.merge_thread.Goals as goal

pub returns-clause-only : goal.returns-clause-only
returns-clause-only c = λ answer h. ⊎_elim (λ e. inl e)
    (λ right. inr (core_merge_once c.args.core.now c.args.images.now (is_python c.args.python c.args.libpython)
    (calls c.args.frames.now) c.args.addresses.now answer (calls_of_result c.merged.result) h right)) c.merged.ensures
