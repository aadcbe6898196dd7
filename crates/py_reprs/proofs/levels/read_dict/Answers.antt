use Rattle.std.proofs.Common.{◌+◌, ◌*◌, ◌∙◌, arith, ap, sym}
use Rattle.std.specs.Prelude.{Ok}
use Rattle.std.proofs.lemmas.Result.{err_from_is_err_and}
use Rattle.process_memory.proofs.Reading.{reading_gives, reading_short, reads_halt, reads_next}
use Rattle.py_builtins.proofs.Consulted.{consulting_short}
use Rattle.py_builtins.specs.ObjectError.{object_fault}
use Rattle.py_reprs.specs.Slots.{dict_level_at, entries_level_at}
use Rattle.py_reprs.proofs.levels.read_dict.Goals as goal

pub returns-in_err-used-clause-answer : goal.returns-in_err-used-clause-answer
unfolding dict_level_at
returns-in_err-used-clause-answer g c =
    let p = err_from_is_err_and c.from_residual.result c.from_residual.ensures.1 in
    rw p.1 (reads_halt _ p.0 _ (reading_short c.in_err-used.ensures.answer) p.2 (omega arith))

pub returns-in_err-values-clause-answer : goal.returns-in_err-values-clause-answer
unfolding dict_level_at
returns-in_err-values-clause-answer g c =
    let p = err_from_is_err_and c.from_residual-in_err-values.result c.from_residual-in_err-values.ensures.1 in
    rw p.1 (reads_next _ _ (reading_short c.in_ok-used.ensures.answer) (reads_halt 1 p.0 _
    c.in_err-values.ensures (ap object_fault p.2) (omega arith)) (omega arith))

pub returns-in_err-cursor-clause-answer : goal.returns-in_err-cursor-clause-answer
unfolding dict_level_at
returns-in_err-cursor-clause-answer g c =
    let p = err_from_is_err_and c.from_residual-in_err-cursor.result c.from_residual-in_err-cursor.ensures.1 in
    rw p.1 (reads_next _ _ (reading_short c.in_ok-used.ensures.answer) (reads_next 3 _ c.in_ok-values.ensures (reads_halt 2 p.0 _
    (consulting_short c.in_err-cursor.ensures.answer) (ap object_fault p.2) (omega arith)) (omega arith)) (omega arith))

pub returns-in_err-level-clause-answer : goal.returns-in_err-level-clause-answer
unfolding dict_level_at
returns-in_err-level-clause-answer g c =
    let p = err_from_is_err_and c.from_residual-in_err-level.result c.from_residual-in_err-level.ensures.1 in
    rw p.1 (reads_next _ _ (reading_short c.in_ok-used.ensures.answer) (reads_next (8 * c.args.limits.now.items + 3) _ c.in_ok-values.ensures
    (reads_next (8 * c.args.limits.now.items + 2) _
    (consulting_short c.in_ok-cursor.ensures.answer)
    (reading_gives (8 * c.args.limits.now.items) _ c.in_err-level.ensures.answer (omega arith)
    (λ m h. record { is = rw (ap object_fault p.2) tt })) (omega arith)) (omega arith)) (omega arith))

pub returns-clause-answer : goal.returns-clause-answer
unfolding dict_level_at
returns-clause-answer g c =
    reads_next _ _ (reading_short c.in_ok-used.ensures.answer) (reads_next (8 * c.args.limits.now.items + 3) _ c.in_ok-values.ensures
    (reads_next (8 * c.args.limits.now.items + 2) _
    (consulting_short c.in_ok-cursor.ensures.answer)
    (reading_gives (8 * c.args.limits.now.items) _ c.in_ok-level.ensures.answer (omega arith)
    (λ m h. record {
      is = ap Ok (sym (h ∙ ap
          (λ n. entries_level_at c.args.limits.now m n c.in_ok-used.used c.in_ok-cursor.cursor.slots) c.nodes_within-within.ensures));
    })) (omega arith)) (omega arith)) (omega arith)
