use Rattle.std.proofs.Common.{ap, sym, arith}
use Rattle.std.proofs.lemmas.Result.{err_from_is_err_and}
use Rattle.process_memory.specs.Seen.{read_fault}
use Rattle.process_memory.proofs.Reading.{reads_next, reads_halt, reads_end}
use Rattle.py_selftest.specs.Members.{member_place_at}
use Rattle.py_selftest.proofs.members.member_place.Goals as goal

pub returns-in_err-found : goal.returns-in_err-found
unfolding member_place_at
returns-in_err-found g c =
    let p = err_from_is_err_and c.from_residual.result c.from_residual.ensures.1 in
    rw p.1 (reads_halt 1025 p.0 _ c.in_err-found.ensures (ap read_fault p.2) (omega arith))

pub returns : goal.returns
unfolding member_place_at
returns g c = reads_next 1025 _ c.in_ok-found.ensures (reads_end 0 (sym c.place_of.ensures)) (omega arith)
