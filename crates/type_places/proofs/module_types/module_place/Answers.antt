use Rattle.std.proofs.Common.{arith, ap}
use Rattle.std.proofs.lemmas.Result.{err_from_is_err_and}
use Rattle.process_memory.proofs.Reading.{reads_next, reads_halt}
use Rattle.py_names.specs.NamesError.{names_fault}
use Rattle.type_places.specs.ModuleTypes.{module_place_at}
use Rattle.type_places.proofs.module_types.module_place.Goals as goal

pub returns-in_err-entry-clause-answer : goal.returns-in_err-entry-clause-answer
unfolding module_place_at
returns-in_err-entry-clause-answer g c =
    let p = err_from_is_err_and c.from_residual.result c.from_residual.ensures.1 in
    rw p.1 (reads_halt _ p.0 _ c.in_err-entry.ensures.answer (ap names_fault p.2) (omega arith))

pub returns-clause-answer : goal.returns-clause-answer
unfolding module_place_at
returns-clause-answer g c = reads_next _ _ c.in_ok-entry.ensures.answer c.entry_place.ensures.answer (omega arith)
