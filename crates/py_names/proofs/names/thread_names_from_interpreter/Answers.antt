use Rattle.std.proofs.Common.{ap}
use Rattle.std.proofs.Math.Nat.{le_refl}
use Rattle.std.proofs.lemmas.Result.{err_from_is_err_and}
use Rattle.process_memory.proofs.Reading.{reading_gives}
use Rattle.py_names.specs.NamesError.{names_fault}
use Rattle.py_names.proofs.NameSteps.{map_answers, map_fails, map_lost}
use Rattle.py_names.proofs.SlotBounds.{slots_most}
use Rattle.py_names.proofs.names.thread_names_from_interpreter.Goals as goal

pub returns-in_err-names-clause-names : goal.returns-in_err-names-clause-names
returns-in_err-names-clause-names g c =
    let p = err_from_is_err_and c.from_residual.result c.from_residual.ensures.1 in
    rw p.1 (reading_gives _ _ c.in_err-names.ensures.answer (le_refl _) (λ m a. map_fails p.0 (ap names_fault p.2) a))

pub returns-in_err-map-clause-names : goal.returns-in_err-map-clause-names
returns-in_err-map-clause-names g c =
    let p = err_from_is_err_and c.from_residual-in_err-map.result c.from_residual-in_err-map.ensures.1 in
    rw p.1 (reading_gives _ _ c.in_ok-names.ensures.answer (le_refl _) (λ m a. map_lost p.0 (ap names_fault p.2)))

pub returns-clause-names : goal.returns-clause-names
returns-clause-names g c = reading_gives _ _ c.in_ok-names.ensures.answer (le_refl _) (λ m a. map_answers c.in_ok-map.map c.in_ok-map.ensures a)

pub returns-in_err-names-clause-most : goal.returns-in_err-names-clause-most
returns-in_err-names-clause-most g c = slots_most c.args.layout.now _ c.args.interpreter

pub returns-in_err-map-clause-most : goal.returns-in_err-map-clause-most
returns-in_err-map-clause-most g c = slots_most c.args.layout.now _ c.args.interpreter

pub returns-clause-most : goal.returns-clause-most
returns-clause-most g c = slots_most c.args.layout.now _ c.args.interpreter
