use Rattle.std.proofs.Common.{arith, refl}
use Rattle.std.proofs.lemmas.Result.{err_from_is_err_and}
use Rattle.process_memory.proofs.Reading.{reading_short, reads_end, reads_halt, reads_next}
use Rattle.py_builtins.proofs.Consulted.{consulting_short}
use Rattle.py_exceptions.specs.Last.{attribute_at}
use Rattle.py_exceptions.proofs.last.read_attribute.Goals as goal

pub returns-in-None : goal.returns-in-None
unfolding attribute_at
returns-in-None g c = rw c.in-None.is (reads_end 16389 refl)

pub returns-in_err-class-in-Some : goal.returns-in_err-class-in-Some
unfolding attribute_at
returns-in_err-class-in-Some g c =
    let p = err_from_is_err_and c.from_residual.result c.from_residual.ensures.1 in
    rw (c.in-Some.is, p.1)
    (reads_halt 16389 p.0 _ (consulting_short c.in_err-class-in-Some.ensures) p.2.0 (omega arith))

pub returns-in_err-dict-in-Some : goal.returns-in_err-dict-in-Some
unfolding attribute_at
returns-in_err-dict-in-Some g c =
    let p = err_from_is_err_and c.from_residual-in_err-dict-in-Some.result
    c.from_residual-in_err-dict-in-Some.ensures.1 in
    rw (c.in-Some.is, p.1) (reads_next 16389 _ (consulting_short c.in_ok-class-in-Some.ensures)
    (reads_halt 1 p.0 _ (reading_short c.in_err-dict-in-Some.ensures) p.2.0 (omega arith)) (omega arith))

pub returns-in_ok-dict-in-Some : goal.returns-in_ok-dict-in-Some
unfolding attribute_at
returns-in_ok-dict-in-Some g c =
    rw c.in-Some.is (reads_next 16389 _ (consulting_short c.in_ok-class-in-Some.ensures)
    (reads_next 16387 _ (reading_short c.in_ok-dict-in-Some.ensures) c.read_entry.ensures (omega arith))
    (omega arith))
