use Rattle.process_memory.proofs.Reading.{reading_none}
use Rattle.core_unwind.proofs.StepParts.{bad_entry, no_entry}
use Rattle.core_unwind.proofs.step.step_by.Goals as goal

pub returns-in-Ok-None : goal.returns-in-Ok-None
returns-in-Ok-None g c = reading_none 8480 _ _ (λ m. no_entry c.args.code_bits m c.args.state.now c.args.place
    c.args.table c.in-Ok-None.field-0 c.here.result c.stopped.result c.in-Ok-None.ensures.right c.in-Ok-None.field-0-is
    c.here.ensures c.stopped.ensures)

pub returns-in-Err : goal.returns-in-Err
returns-in-Err g c = reading_none 8480 _ _ (λ m. bad_entry c.args.code_bits m c.args.state.now c.args.place c.args.table
    c.in-Err.error c.stopped-in-Err.result c.in-Err.ensures.right c.stopped-in-Err.ensures)
