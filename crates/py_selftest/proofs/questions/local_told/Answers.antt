use Rattle.std.proofs.Common.{ap, sym, arith}
use Rattle.std.proofs.lemmas.Result.{err_from_is_err_and}
use Rattle.process_memory.specs.Seen.{read_fault}
use Rattle.process_memory.proofs.Reading.{reads_next, reads_halt, reads_same, reading_short}
use Rattle.py_selftest.specs.Questions.{local_told, value_told}
use Rattle.py_selftest.proofs.questions.local_told.Goals as goal

pub returns-in_err-count : goal.returns-in_err-count
unfolding local_told
returns-in_err-count g c =
    let p = err_from_is_err_and c.from_residual.result c.from_residual.ensures.1 in
    rw p.1 (reads_halt 5 p.0 _ (reading_short c.in_err-count.ensures.answer) (ap read_fault p.2) (omega arith))

pub returns-in_err-object : goal.returns-in_err-object
unfolding local_told
returns-in_err-object g c =
    let p = err_from_is_err_and c.from_residual-in_err-object.result c.from_residual-in_err-object.ensures.1 in
    rw p.1 (reads_next 5 _ (reading_short c.in_ok-count.ensures.answer)
    (reads_halt 4 p.0 _ (reading_short c.in_err-object.ensures.answer) (ap read_fault p.2) (omega arith)) (omega
    arith))

pub returns : goal.returns
unfolding local_told
returns g c =
    (reads_next 5 _ (reading_short c.in_ok-count.ensures.answer)
    (reads_next 4 _ (reading_short c.in_ok-object.ensures.answer)
    (reads_same _ _ (λ m. ap (value_told c.args.layout.now m c.in_ok-object.object) (sym c.has_value-is.ensures))
    c.value_told.ensures) (omega arith)) (omega arith))
