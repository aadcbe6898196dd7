use Rattle.std.proofs.Common.{ap, arith}
use Rattle.std.proofs.lemmas.Result.{err_from_is_err_and}
use Rattle.process_memory.specs.Seen.{read_fault}
use Rattle.process_memory.proofs.Reading.{reads_next, reads_halt, reading_short}
use Rattle.py_selftest.specs.Questions.{member_class_told}
use Rattle.py_selftest.proofs.questions.member_class_told.Goals as goal

pub returns-in_err-object : goal.returns-in_err-object
unfolding member_class_told
returns-in_err-object g c =
    let p = err_from_is_err_and c.from_residual.result c.from_residual.ensures.1 in
    rw p.1 (reads_halt 2 p.0 _ (reading_short c.in_err-object.ensures.answer) (ap read_fault p.2) (omega arith))

pub returns : goal.returns
unfolding member_class_told
returns g c =
    (reads_next 2 _ (reading_short c.in_ok-object.ensures.answer)
    c.class_told.ensures (omega arith))
