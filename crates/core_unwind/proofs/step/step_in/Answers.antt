use Rattle.process_memory.proofs.Reading.{reading_none}
use Rattle.core_unwind.specs.Places.{site_of}
use Rattle.core_unwind.proofs.StepParts.{no_table}
use Rattle.core_unwind.proofs.step.step_in.Goals as goal

pub returns-in-Err : goal.returns-in-Err
returns-in-Err g c = reading_none 8480 _ _ (λ m. no_table c.args.code_bits m c.args.state.now (site_of c.args.spot)
    c.in-Err.error c.here.result c.table_end-end.result c.stopped.result c.in-Err.ensures.right c.here.ensures
    c.table_end-end.ensures c.stopped.ensures)
