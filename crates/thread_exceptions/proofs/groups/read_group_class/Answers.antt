use Rattle.std.proofs.Common.{ap, arith, refl, sym, ◌∙◌}
use Rattle.std.proofs.lemmas.Result.{err_from_is_err_and}
use Rattle.process_memory.proofs.Reading.{reading_short, reads_end, reads_halt, reads_next}
use Rattle.process_memory.specs.Seen.{read_fault}
use Rattle.thread_exceptions.specs.Groups.{group_class_at, is_group_type}
use Rattle.thread_exceptions.proofs.groups.read_group_class.Goals as goal

pub returns-in_err-flags : goal.returns-in_err-flags
unfolding group_class_at
returns-in_err-flags g c =
    let p = err_from_is_err_and c.from_residual.result c.from_residual.ensures.1 in
    rw p.1 (reads_halt 3 p.0 _ (reading_short c.in_err-flags.ensures.answer) (ap read_fault p.2) (omega arith))

pub returns-in_err-at : goal.returns-in_err-at
unfolding group_class_at
returns-in_err-at g c =
    let p = err_from_is_err_and c.from_residual-in_err-at.result c.from_residual-in_err-at.ensures.1 in
    rw p.1 (reads_next 3 _ (reading_short c.in_ok-flags.ensures.answer)
    (reads_halt 2 p.0 _ (reading_short c.in_err-at.ensures.answer) (ap read_fault p.2) (omega arith)) (omega arith))

pub returns-in_err-name : goal.returns-in_err-name
unfolding group_class_at
returns-in_err-name g c =
    let p = err_from_is_err_and c.from_residual-in_err-name.result c.from_residual-in_err-name.ensures.1 in
    rw p.1 (reads_next 3 _ (reading_short c.in_ok-flags.ensures.answer)
    (reads_next 2 _ (reading_short c.in_ok-at.ensures.answer)
    (reads_halt 1 p.0 _ (reading_short c.in_err-name.ensures.answer) (ap read_fault p.2) (omega arith)) (omega arith))
    (omega arith))

pub returns : goal.returns
unfolding group_class_at
returns g c =
    let is = ap (is_group_type c.in_ok-flags.flags) (sym c.deref.ensures.value) ∙ sym c.is_group_type.ensures in
    reads_next 3 _ (reading_short c.in_ok-flags.ensures.answer)
    (reads_next 2 _ (reading_short c.in_ok-at.ensures.answer)
    (reads_next 1 _ (reading_short c.in_ok-name.ensures.answer) (reads_end 0 is) (omega arith)) (omega arith))
    (omega arith)
