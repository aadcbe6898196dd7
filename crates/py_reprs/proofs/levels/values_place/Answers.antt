use Rattle.std.proofs.Common.{ap, refl, arith}
use Rattle.std.proofs.lemmas.Result.{err_from_is_err_and}
use Rattle.process_memory.proofs.Reading.{reading_short, reads_end, reads_halt, reads_next, reads_same}
use Rattle.py_builtins.specs.ObjectError.{object_fault}
use Rattle.py_reprs.specs.Slots.{values_by, values_place}
use Rattle.py_reprs.proofs.levels.values_place.Goals as goal

pub returns-in-None : goal.returns-in-None
unfolding values_place
returns-in-None g c = reads_same _ _ (λ m. ap (λ d. values_by d m c.args.addr) c.in-None.is) (reads_end 1 refl)

pub returns-in_err-values-in-Some : goal.returns-in_err-values-in-Some
unfolding values_place
returns-in_err-values-in-Some g c =
    let p = err_from_is_err_and c.from_residual.result c.from_residual.ensures.1 in
    rw p.1 (reads_same _ _ (λ m. ap (λ d. values_by d m c.args.addr) c.in-Some.is)
    (reads_halt 1 p.0 _ (reading_short c.in_err-values-in-Some.ensures.answer) p.2 (omega arith)))

pub returns-in_ok-values-in-Some : goal.returns-in_ok-values-in-Some
unfolding values_place
returns-in_ok-values-in-Some g c = reads_same _ _ (λ m. ap (λ d. values_by d m c.args.addr) c.in-Some.is)
    (reads_next 1 _ (reading_short c.in_ok-values-in-Some.ensures.answer) (reads_end 0 refl) (omega arith))
