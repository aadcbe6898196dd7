use Rattle.std.proofs.Common.{ap, arith, refl}
use Rattle.std.proofs.lemmas.Result.{err_from_is_err_and}
use Rattle.process_memory.proofs.Reading.{reading_short, reads_end, reads_halt, reads_next}
use Rattle.process_memory.specs.Seen.{read_fault}
use Rattle.py_coroutines.specs.Objects.{top_at}
use Rattle.py_coroutines.proofs.turn.read_top.Goals as goal

pub returns-in-None : goal.returns-in-None
unfolding top_at
returns-in-None g c = rw c.in-None.is (reads_end 1 refl)

pub returns-in_err-next-in-Some : goal.returns-in_err-next-in-Some
unfolding top_at
returns-in_err-next-in-Some g c =
    let p = err_from_is_err_and c.from_residual.result c.from_residual.ensures.1 in
    rw (p.1, c.in-Some.is) (reads_halt 1 p.0 _ (reading_short c.in_err-next-in-Some.ensures.answer) (ap read_fault p.2) (omega arith))

pub returns-in_ok-next-in-Some : goal.returns-in_ok-next-in-Some
unfolding top_at
returns-in_ok-next-in-Some g c =
    rw c.in-Some.is (reads_next 1 _ (reading_short c.in_ok-next-in-Some.ensures.answer) (reads_end 0 refl) (omega arith))
