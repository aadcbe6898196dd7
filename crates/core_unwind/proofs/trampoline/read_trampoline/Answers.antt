use Rattle.std.proofs.Common.{◌∙◌, arith, sym}
use Rattle.process_memory.proofs.Reading.{reading_gives, reading_none, reading_then}
use Rattle.core_unwind.proofs.MarkSteps.{no_top, no_trampoline, trampoline_is}
use Rattle.core_unwind.proofs.ReadSteps.{result_is}
use Rattle.core_unwind.proofs.trampoline.read_trampoline.Goals as goal

pub returns-in_default : goal.returns-in_default
returns-in_default g c = reading_none 35 _ _ (λ m. no_top c.args.machine m c.args.state.now (sym c.in_default.ensures))

pub returns-then-not-has : goal.returns-then-not-has
returns-then-not-has g c = reading_gives 35 _ c.in_ok-has.ensures (omega arith) (λ m h.
    no_trampoline c.args.machine m c.args.state.now c.in-Some.top (sym c.in-Some.ensures)
    (sym h ∙ c.if-not-has.true))

pub returns : goal.returns
returns g c = reading_gives 35 _ (reading_then _ c.in_ok-has.ensures c.read_interrupted.ensures (λ m p q.
    result_is c.read_interrupted.result (trampoline_is c.args.machine m c.args.state.now c.in-Some.top
    (sym c.in-Some.ensures) (sym p ∙ c.if-not-has.false)) q)) (omega arith) (λ m h. h)
