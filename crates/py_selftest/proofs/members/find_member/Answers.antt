use Rattle.std.proofs.Common.{ap, arith}
use Rattle.std.proofs.lemmas.Result.{err_from_is_err_and}
use Rattle.process_memory.specs.Seen.{read_fault}
use Rattle.process_memory.proofs.Reading.{reads_next, reads_halt, reading_short}
use Rattle.py_selftest.specs.Members.{member_at}
use Rattle.py_selftest.proofs.members.find_member.Goals as goal

pub returns-in_err-table : goal.returns-in_err-table
unfolding member_at
returns-in_err-table g c =
    let p = err_from_is_err_and c.from_residual.result c.from_residual.ensures.1 in
    rw p.1 (reads_halt 1025 p.0 _ (reading_short c.in_err-table.ensures.answer) (ap read_fault p.2) (omega arith))

pub returns : goal.returns
unfolding member_at
returns g c = reads_next 1025 _ (reading_short c.in_ok-table.ensures.answer) c.member_in.ensures (omega arith)
