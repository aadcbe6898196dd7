use Rattle.std.proofs.Common.{arith, refl}
use Rattle.std.proofs.lemmas.Result.{err_from_is_err_and}
use Rattle.process_memory.proofs.Reading.{reads_next, reads_halt, reads_end}
use Rattle.py_builtins.specs.Consulted.IsWidth.{Word}
use Rattle.py_builtins.proofs.Consulted.{reads_field}
use Rattle.type_places.specs.Classes.{has_size_if}
use Rattle.type_places.proofs.classes.has_size_if.Goals as goal

pub returns-in_err-stated : goal.returns-in_err-stated
unfolding has_size_if
returns-in_err-stated g c =
    let p = err_from_is_err_and c.from_residual.result c.from_residual.ensures.1 in
    rw (p.1, c.if-is_type.true) (reads_halt 1 p.0 _ (reads_field Word c.in_err-stated.ensures.answer) p.2 (omega arith))

pub returns-then-is_type : goal.returns-then-is_type
unfolding has_size_if
returns-then-is_type g c =
    rw c.if-is_type.true (reads_next 1 _ (reads_field Word c.in_ok-stated.ensures.answer) (reads_end 0 refl)
    (omega arith))

pub returns : goal.returns
unfolding has_size_if
returns g c = rw c.if-is_type.false (reads_end 1 refl)
