use Rattle.std.proofs.Common.{ap, arith, refl}
use Rattle.std.proofs.lemmas.Result.{err_from_is_err_and}
use Rattle.process_memory.proofs.Reading.{reading_short, reads_end, reads_halt, reads_next}
use Rattle.process_memory.specs.Seen.{read_fault}
use Rattle.py_coroutines.specs.Holders.{held_at}
use Rattle.py_coroutines.proofs.holders.read_held.Goals as goal

pub returns-in-None : goal.returns-in-None
unfolding held_at
returns-in-None g c = rw c.in-None.is (reads_end 2 refl)

pub returns-in_err-held-in-Some : goal.returns-in_err-held-in-Some
unfolding held_at
returns-in_err-held-in-Some g c =
    let p = err_from_is_err_and c.from_residual.result c.from_residual.ensures.1 in
    rw (p.1, c.in-Some.is) (reads_halt 2 p.0 _ (reading_short c.in_err-held-in-Some.ensures.answer) (ap read_fault p.2) (omega arith))

pub returns-in_ok-held-in-Some : goal.returns-in_ok-held-in-Some
unfolding held_at
returns-in_ok-held-in-Some g c = rw c.in-Some.is (reads_next 2 _ (reading_short c.in_ok-held-in-Some.ensures.answer) c.read_wanted.ensures (omega arith))
