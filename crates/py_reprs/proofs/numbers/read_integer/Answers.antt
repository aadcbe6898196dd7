use Rattle.std.proofs.Common.{arith}
use Rattle.std.proofs.lemmas.Result.{err_from_is_err_and}
use Rattle.process_memory.proofs.Reading.{reading_short, reads_halt, reads_next}
use Rattle.py_fields.proofs.ObjectFields.{long_fits}
use Rattle.py_reprs.specs.Numbers.{integer_at}
use Rattle.py_reprs.proofs.numbers.read_integer.Goals as goal

pub u64_in-requires : goal.u64_in-requires
u64_in-requires g c = omega (arith, (long_fits c.requires.sound).count, c.deref.ensures.len, c.in_ok-object.ensures.whole)

pub returns-in_err-object : goal.returns-in_err-object
unfolding integer_at
returns-in_err-object g c =
    let p = err_from_is_err_and c.from_residual.result c.from_residual.ensures.1 in
    rw p.1 (reads_halt 2 p.0 _ (reading_short c.in_err-object.ensures.answer) p.2 (omega arith))

pub returns : goal.returns
unfolding integer_at
returns g c =
    let digits = rw (c.u64_in.ensures, c.deref.ensures.value) at c.digits_of-digits.ensures in
    reads_next 2 _ (reading_short c.in_ok-object.ensures.answer) (rw digits at c.read_integer_by.ensures) (omega arith)
