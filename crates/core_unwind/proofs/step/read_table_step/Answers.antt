use Rattle.process_memory.proofs.Reading.{reading_none}
use Rattle.core_unwind.proofs.StepParts.{no_place}
use Rattle.core_unwind.proofs.step.read_table_step.Goals as goal

pub returns-in-Err : goal.returns-in-Err
returns-in-Err g c = reading_none 8480 _ _ (λ m. no_place c.args.code_bits m c.args.state.now c.args.mappings.now
    c.here.result c.in-Err.end c.stopped.result c.in-Err.ensures c.here.ensures c.stopped.ensures)
