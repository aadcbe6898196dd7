use Rattle.std.proofs.Common.{sym, ap, arith, refl}
use Rattle.std.proofs.lemmas.Result.{err_from_is_err_and}
use Rattle.process_memory.proofs.Reading.{reads_next, reads_halt, reads_end}
use Rattle.py_builtins.specs.ObjectError.{object_fault}
use Rattle.type_places.specs.Places.{symbol_place_at}
use Rattle.type_places.proofs.places.by_symbol.Goals as goal

pub returns-in-None : goal.returns-in-None
unfolding symbol_place_at
returns-in-None g c = rw c.in-None.is (reads_end 2 refl)

pub returns-in_err-is-in-Some : goal.returns-in_err-is-in-Some
unfolding symbol_place_at
returns-in_err-is-in-Some g c =
    let p = err_from_is_err_and c.from_residual.result c.from_residual.ensures.1 in
    rw (p.1, c.in-Some.is) (reads_halt 2 p.0 _ c.in_err-is-in-Some.ensures (ap object_fault p.2) (omega arith))

pub returns-in_ok-is-in-Some : goal.returns-in_ok-is-in-Some
unfolding symbol_place_at
returns-in_ok-is-in-Some g c =
    rw c.in-Some.is (reads_next 2 _ c.in_ok-is-in-Some.ensures (reads_end 0 (sym c.place_if.ensures)) (omega arith))
