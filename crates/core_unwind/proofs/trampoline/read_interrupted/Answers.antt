use Rattle.std.proofs.Common.{arith}
use Rattle.std.proofs.lemmas.Result.{err_from_is_err_and}
use Rattle.process_memory.proofs.Reading.{reading_gives, reading_then}
use Rattle.core_unwind.proofs.MarkSteps.{interrupted_is}
use Rattle.core_unwind.proofs.trampoline.read_interrupted.Goals as goal

pub returns-in_err-registers : goal.returns-in_err-registers
returns-in_err-registers g c =
    let p = err_from_is_err_and c.from_residual-in_err-registers.result c.from_residual-in_err-registers.ensures.1 in
    rw p.1 (reading_gives 33 _ (reading_then (λ m. Unit {0}) c.in_ok-pc.ensures c.in_err-registers.ensures
    (λ m a b. tt)) (omega arith) (λ m h. tt))

pub returns : goal.returns
returns g c = reading_gives 33 _ (reading_then _ c.in_ok-pc.ensures c.in_ok-registers.ensures
    (λ m p q. interrupted_is c.args.machine m c.args.state.now c.args.top c.counter_place-place.result c.in_ok-pc.pc
    c.in_ok-registers.registers c.interrupted-going.result c.counter_place-place.ensures p q
    c.interrupted-going.ensures)) (omega arith) (λ m h. h)
