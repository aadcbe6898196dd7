use Rattle.std.proofs.Common.{ap, arith}
use Rattle.std.proofs.lemmas.Result.{err_from_is_err_and}
use Rattle.process_memory.proofs.Reading.{reads_halt, reads_known, reads_next}
use Rattle.py_names.specs.NamesError.{names_fault}
use Rattle.task_sets.specs.Tables.{read_tables_at}
use Rattle.task_sets.proofs.tables.read_tables_at.Goals as goal

pub returns-in_err-all-clause-answer : goal.returns-in_err-all-clause-answer
unfolding read_tables_at
returns-in_err-all-clause-answer g c =
    let p = err_from_is_err_and c.from_residual.result c.from_residual.ensures.1 in
    rw p.1 (reads_halt 6 p.0 _ c.in_err-all.ensures.answer (ap names_fault p.2) (omega arith))

pub returns-in_err-scheduled-clause-answer : goal.returns-in_err-scheduled-clause-answer
unfolding read_tables_at
returns-in_err-scheduled-clause-answer g c =
    let p = err_from_is_err_and c.from_residual-in_err-scheduled.result c.from_residual-in_err-scheduled.ensures.1 in
    rw p.1 (reads_next 6 _ c.in_ok-all.ensures.answer (reads_halt 4 p.0 _ c.in_err-scheduled.ensures.answer
    (ap names_fault p.2) (omega arith)) (omega arith))

pub returns-in_err-eager-clause-answer : goal.returns-in_err-eager-clause-answer
unfolding read_tables_at
returns-in_err-eager-clause-answer g c =
    let p = err_from_is_err_and c.from_residual-in_err-eager.result c.from_residual-in_err-eager.ensures.1 in
    rw p.1 (reads_next 6 _ c.in_ok-all.ensures.answer (reads_next 4 _ c.in_ok-scheduled.ensures.answer
    (reads_halt 2 p.0 _ c.in_err-eager.ensures.answer (ap names_fault p.2) (omega arith)) (omega arith)) (omega arith))

pub returns-clause-answer : goal.returns-clause-answer
unfolding read_tables_at
returns-clause-answer g c = (reads_next 6 _ c.in_ok-all.ensures.answer (reads_next 4 _
    c.in_ok-scheduled.ensures.answer (reads_next 2 _ c.in_ok-eager.ensures.answer
    (reads_known 0 _ _ (λ m. c.few_of.ensures.answer)) (omega arith)) (omega arith)) (omega arith))
