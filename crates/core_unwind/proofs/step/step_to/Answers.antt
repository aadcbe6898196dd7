use Rattle.process_memory.proofs.Reading.{reading_none}
use Rattle.core_unwind.proofs.StepParts.{no_row}
use Rattle.core_unwind.proofs.step.step_to.Goals as goal

pub returns-in-Err : goal.returns-in-Err
returns-in-Err g c = reading_none 8480 _ _ (λ m. no_row c.args.code_bits m c.args.state.now c.args.place c.args.table
    c.args.entry c.in-Err.error c.stopped.result c.in-Err.ensures.right c.stopped.ensures)
