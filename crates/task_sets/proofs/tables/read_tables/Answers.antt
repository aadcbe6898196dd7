use Rattle.std.proofs.Common.{ap, arith}
use Rattle.std.proofs.lemmas.Result.{err_from_is_err_and}
use Rattle.process_memory.proofs.Reading.{reads_halt, reads_next}
use Rattle.py_names.specs.NamesError.{names_fault}
use Rattle.task_sets.specs.Tables.{tables_at}
use Rattle.task_sets.proofs.tables.read_tables.Goals as goal

pub returns-in_err-all-clause-answer : goal.returns-in_err-all-clause-answer
unfolding tables_at
returns-in_err-all-clause-answer g c =
    let p = err_from_is_err_and c.from_residual.result c.from_residual.ensures.1 in
    rw p.1 (reads_halt 32792 p.0 _ c.in_err-all.ensures (ap names_fault p.2) (omega arith))

pub returns-in_err-scheduled-clause-answer : goal.returns-in_err-scheduled-clause-answer
unfolding tables_at
returns-in_err-scheduled-clause-answer g c =
    let p = err_from_is_err_and c.from_residual-in_err-scheduled.result c.from_residual-in_err-scheduled.ensures.1 in
    rw p.1 (reads_next 32792 _ c.in_ok-all.ensures (reads_halt 16399 p.0 _ c.in_err-scheduled.ensures
    (ap names_fault p.2) (omega arith)) (omega arith))

pub returns-clause-answer : goal.returns-clause-answer
unfolding tables_at
returns-clause-answer g c = (reads_next 32792 _ c.in_ok-all.ensures (reads_next 16399 _ c.in_ok-scheduled.ensures
    c.read_tables_at.ensures.answer (omega arith)) (omega arith))
