use Rattle.std.proofs.Common.{ap, refl, arith}
use Rattle.std.proofs.lemmas.Result.{err_from_is_err_and}
use Rattle.process_memory.specs.Seen.{read_fault}
use Rattle.process_memory.proofs.Reading.{reads_next, reads_halt, reads_end, reading_short}
use Rattle.py_selftest.specs.Members.{entry_at}
use Rattle.py_selftest.proofs.members.read_member.Goals as goal

pub returns-in_err-code : goal.returns-in_err-code
unfolding entry_at
returns-in_err-code g c =
    let p = err_from_is_err_and c.from_residual.result c.from_residual.ensures.1 in
    rw p.1 (reads_halt 2 p.0 _ (reading_short c.in_err-code.ensures.answer) (ap read_fault p.2) (omega arith))

pub returns-in_err-place : goal.returns-in_err-place
unfolding entry_at
returns-in_err-place g c =
    let p = err_from_is_err_and c.from_residual-in_err-place.result c.from_residual-in_err-place.ensures.1 in
    rw p.1 (reads_next 2 _ (reading_short c.in_ok-code.ensures.answer)
    (reads_halt 1 p.0 _ (reading_short c.in_err-place.ensures.answer) (ap read_fault p.2) (omega arith)) (omega arith))

pub returns : goal.returns
unfolding entry_at
returns g c =
    reads_next 2 _ (reading_short c.in_ok-code.ensures.answer)
    (reads_next 1 _ (reading_short c.in_ok-place.ensures.answer)
    (reads_end 0 (rw c.width_of.ensures refl)) (omega arith)) (omega arith)
