use Rattle.native_merge.specs.Merges.{is_python}
use Rattle.native_merge.specs.PythonFrames.{ends_part}
use Rattle.native_merge.proofs.AnswersTold.{stay_told}
use Rattle.native_merge.proofs.Asked.{asked_cap, asked_known}
use Rattle.native_merge.proofs.MergeLaws.{each_once}
use Rattle.native_merge.proofs.native_stack.NativeStack.merge_native_stack.Goals as goal

pub returns-clause-once : goal.returns-clause-once
returns-clause-once g c fs is = each_once ends_part fs is

pub returns-clause-told : goal.returns-clause-told
returns-clause-told g c = stay_told (g.S.Symbolicator.seen c.args.self.now.symbols) (is_python c.args.self.now.python c.args.self.now.libpython)

pub returns-clause-known : goal.returns-clause-known
returns-clause-known g c known = asked_known (g.S.Symbolicator.seen c.args.self.now.symbols) (is_python c.args.self.now.python c.args.self.now.libpython)
    c.merged.ensures.asked known

pub returns-clause-size : goal.returns-clause-size
returns-clause-size g c = asked_cap c.merged.ensures.asked
