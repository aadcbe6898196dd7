use Rattle.std.proofs.Common.{sym, arith, refl}
use Rattle.std.proofs.lemmas.Result.{err_from_is_err_and}
use Rattle.process_memory.proofs.Reading.{reads_next, reads_halt, reads_end}
use Rattle.py_builtins.proofs.Consulted.{consults_fields}
use Rattle.type_places.specs.ModuleTypes.{entry_place_at}
use Rattle.type_places.proofs.module_types.entry_place.Goals as goal

pub returns-in-None-clause-answer : goal.returns-in-None-clause-answer
unfolding entry_place_at
returns-in-None-clause-answer g c = rw c.in-None.is (reads_end 3 refl)

pub returns-in_err-is-in-Some-clause-answer : goal.returns-in_err-is-in-Some-clause-answer
unfolding entry_place_at
returns-in_err-is-in-Some-clause-answer g c =
    let p = err_from_is_err_and c.from_residual.result c.from_residual.ensures.1 in
    rw (p.1, c.in-Some.is)
    (reads_halt 3 p.0 _ (consults_fields c.args.layout.now c.in_err-is-in-Some.ensures) p.2.0 (omega arith))

pub returns-in_ok-is-in-Some-clause-answer : goal.returns-in_ok-is-in-Some-clause-answer
unfolding entry_place_at
returns-in_ok-is-in-Some-clause-answer g c =
    rw c.in-Some.is (reads_next 3 _ (consults_fields c.args.layout.now c.in_ok-is-in-Some.ensures)
    (reads_end 0 (sym c.place_if.ensures)) (omega arith))
