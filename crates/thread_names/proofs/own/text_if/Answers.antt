use Rattle.std.proofs.Common.{arith, refl}
use Rattle.std.proofs.lemmas.Result.{err_from_is_err_and}
use Rattle.process_memory.proofs.Reading.{reads_end, reads_halt, reads_next}
use Rattle.py_builtins.proofs.Consulted.{consulting_short}
use Rattle.thread_names.specs.Own.{text_if}
use Rattle.thread_names.proofs.own.text_if.Goals as goal

pub returns-in-None : goal.returns-in-None
unfolding text_if
returns-in-None g c = rw c.in-None.is (reads_end 2 refl)

pub returns-in_err-name-in-Some : goal.returns-in_err-name-in-Some
unfolding text_if
returns-in_err-name-in-Some g c =
    let p = err_from_is_err_and c.from_residual.result c.from_residual.ensures.1 in
    rw (c.in-Some.is, p.1)
    (reads_halt 2 p.0 _ (consulting_short c.in_err-name-in-Some.ensures.answer) p.2.0 (omega arith))

pub returns-in_ok-name-in-Some : goal.returns-in_ok-name-in-Some
unfolding text_if
returns-in_ok-name-in-Some g c =
    rw c.in-Some.is
    (reads_next {k = 0} 2 _ (consulting_short c.in_ok-name-in-Some.ensures.answer) (reads_end 0 refl) (omega arith))
