use Rattle.std.proofs.Common.{ap, sym, arith}
use Rattle.std.proofs.lemmas.Result.{err_from_is_err_and}
use Rattle.process_memory.specs.Seen.{read_fault}
use Rattle.process_memory.proofs.Reading.{reads_next, reads_halt, reads_end, reading_short}
use Rattle.py_selftest.specs.Walking.{code_at}
use Rattle.py_selftest.proofs.walking.code_of.Goals as goal

pub returns-in_err-word : goal.returns-in_err-word
unfolding code_at
returns-in_err-word g c =
    let p = err_from_is_err_and c.from_residual.result c.from_residual.ensures.1 in
    rw p.1 (reads_halt 2 p.0 _ (reading_short c.in_err-word.ensures.answer) (ap read_fault p.2) (omega arith))

pub returns-in_err-file : goal.returns-in_err-file
unfolding code_at
returns-in_err-file g c =
    let p = err_from_is_err_and c.from_residual-in_err-file.result c.from_residual-in_err-file.ensures.1 in
    rw p.1 (reads_next 2 _ (reading_short c.in_ok-word.ensures.answer)
    (reads_halt 1 p.0 _ (reading_short (rw c.untagged-code.ensures at c.in_err-file.ensures.answer)) (ap read_fault
    p.2) (omega arith)) (omega arith))

pub returns : goal.returns
unfolding code_at
returns g c =
    (reads_next 2 _ (reading_short c.in_ok-word.ensures.answer)
    (reads_next 1 _ (reading_short (rw c.untagged-code.ensures at c.in_ok-file.ensures.answer))
    (reads_end 0 (sym (rw c.untagged-code.ensures at c.code_if.ensures))) (omega arith)) (omega arith))
