use Rattle.std.proofs.Common.{◌∙◌, arith, sym}
use Rattle.process_memory.proofs.Reading.{reading_gives, reading_then}
use Rattle.core_unwind.proofs.MarkSteps.{coded_first, coded_other}
use Rattle.core_unwind.proofs.ReadSteps.{result_is}
use Rattle.core_unwind.proofs.marked.read_coded.Goals as goal

pub returns-in-Some : goal.returns-in-Some
returns-in-Some g c = reading_gives 67 _ c.in_ok-found.ensures (omega arith) (λ m h.
    coded_first c.args.machine m c.args.state.now c.in-Some.going (sym c.in-Some.is ∙ h))

pub returns-in-None : goal.returns-in-None
returns-in-None g c = reading_gives 67 _ (reading_then _ c.in_ok-found.ensures c.read_epilogue.ensures (λ m p q.
    result_is c.read_epilogue.result (coded_other c.args.machine m c.args.state.now (sym c.in-None.is ∙ p)) q))
    (omega arith) (λ m h. h)
