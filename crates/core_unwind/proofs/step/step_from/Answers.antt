use Rattle.std.proofs.Common.{◌∙◌, sym}
use Rattle.process_memory.proofs.Reading.{reading_none}
use Rattle.core_unwind.proofs.StepParts.{cut_step}
use Rattle.core_unwind.proofs.step.step_from.Goals as goal

pub returns-in-Some : goal.returns-in-Some
returns-in-Some g c = reading_none 8480 _ _ (λ m. cut_step c.args.code_bits m c.args.state.now c.args.place c.args.table
    c.args.entry c.in-Some.limit c.stopped.result (sym c.cut_by.ensures ∙ c.in-Some.is) c.stopped.ensures)
