use Rattle.std.proofs.Common.{◌*◌, arith, ap, sym}
use Rattle.std.specs.Prelude.{Ok}
use Rattle.std.proofs.lemmas.Result.{err_from_is_err_and}
use Rattle.process_memory.proofs.Reading.{reading_gives, reading_short, reads_halt, reads_next}
use Rattle.py_builtins.specs.ObjectError.{object_fault}
use Rattle.py_reprs.specs.Slots.{set_level_at}
use Rattle.py_reprs.proofs.levels.read_set.Goals as goal

pub returns-in_err-fields-clause-answer : goal.returns-in_err-fields-clause-answer
unfolding set_level_at
returns-in_err-fields-clause-answer g c =
    let p = err_from_is_err_and c.from_residual.result c.from_residual.ensures.1 in
    rw p.1 (reads_halt _ p.0 _ (reading_short c.in_err-fields.ensures.answer) p.2 (omega arith))

pub returns-in_err-level-clause-answer : goal.returns-in_err-level-clause-answer
unfolding set_level_at
returns-in_err-level-clause-answer g c =
    let p = err_from_is_err_and c.from_residual-in_err-level.result c.from_residual-in_err-level.ensures.1 in
    rw p.1 (reads_next _ _ (reading_short c.in_ok-fields.ensures.answer)
    (reading_gives (4 * c.args.limits.now.items) _ c.in_err-level.ensures.answer (omega arith)
    (λ m h. record { is = rw (ap object_fault p.2) tt })) (omega arith))

pub returns-clause-answer : goal.returns-clause-answer
unfolding set_level_at
returns-clause-answer g c =
    let level = rw (
      c.u64_in-used.ensures,
      c.deref.ensures.value,
      c.u64_in-mask.ensures,
      c.deref-2.ensures.value,
      c.u64_in-table.ensures,
      c.deref-3.ensures.value,
    ) at c.in_ok-level.ensures.answer in
    reads_next _ _ (reading_short c.in_ok-fields.ensures.answer)
    (reading_gives (4 * c.args.limits.now.items) _ level (omega arith) (λ m h. record { is = ap Ok (sym h) })) (omega arith)
