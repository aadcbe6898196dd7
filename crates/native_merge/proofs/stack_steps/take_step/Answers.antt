use Rattle.std.proofs.Common.{◌++◌, ap, ◌∙◌, arith}
use Rattle.native_merge.specs.PythonFrames.{calls}
use Rattle.native_merge.proofs.StepWidths.{width_at_is, taken_at_is}
use Rattle.native_merge.proofs.stack_steps.take_step.Goals as goal

pub returns-clause-next : goal.returns-clause-next
returns-clause-next c = rw (width_at_is c.args.frames.now c.args.cursor) (omega arith)

pub returns-clause-taken : goal.returns-clause-taken
returns-clause-taken c = c.in_ok-add_copies.ensures.added
    ∙ ap (λ l. calls c.args.made.now.items ++ l) (taken_at_is c.args.frames.now c.args.cursor c.min.result (omega arith) (omega (arith, c.min.ensures, c.step_end-end.ensures)))
