use Rattle.std.proofs.Common.{arith}
use Rattle.std.proofs.lemmas.Result.{err_from_is_err_and}
use Rattle.process_memory.proofs.Reading.{reading_short, reads_halt, reads_known, reads_next}
use Rattle.task_sets.specs.Sets.{entries_at}
use Rattle.task_sets.proofs.sets.read_entries.Goals as goal

pub returns-in_err-mask-clause-answer : goal.returns-in_err-mask-clause-answer
unfolding entries_at
returns-in_err-mask-clause-answer g c =
    let p = err_from_is_err_and c.from_residual.result c.from_residual.ensures.1 in
    rw p.1 (reads_halt 2 p.0 _ (reading_short c.in_err-mask.ensures.answer) p.2.0 (omega arith))

pub returns-in_err-table-clause-answer : goal.returns-in_err-table-clause-answer
unfolding entries_at
returns-in_err-table-clause-answer g c =
    let p = err_from_is_err_and c.from_residual-in_err-table.result c.from_residual-in_err-table.ensures.1 in
    rw p.1 (reads_next 2 _ (reading_short c.in_ok-mask.ensures.answer) (reads_halt 1 p.0 _ (reading_short
    c.in_err-table.ensures.answer) p.2.0 (omega arith)) (omega arith))

pub returns-clause-answer : goal.returns-clause-answer
unfolding entries_at
returns-clause-answer g c = (reads_next 2 _ (reading_short c.in_ok-mask.ensures.answer) (reads_next 1 _
    (reading_short c.in_ok-table.ensures.answer) (reads_known 0 _ _ (λ m. c.entries_of.ensures.answer)) (omega
    arith)) (omega arith))
