use Rattle.std.proofs.Common.{ap, arith, refl, sym}
use Rattle.std.proofs.lemmas.Result.{err_from_is_err_and}
use Rattle.process_memory.specs.Seen.{read_fault}
use Rattle.process_memory.proofs.Reading.{reads_end, reads_halt, reads_next}
use Rattle.py_waits.specs.Frames.{newest_at}
use Rattle.py_waits.proofs.frames.newest_at.Goals as goal

pub returns-in_err-named : goal.returns-in_err-named
unfolding newest_at
returns-in_err-named g c =
    let p = err_from_is_err_and c.from_residual.result c.from_residual.ensures.1 in
    rw p.1 (reads_halt 2 p.0 _ c.in_err-named.ensures (ap read_fault p.2) (omega arith))

pub returns : goal.returns
unfolding newest_at
returns g c = reads_next 2 _ c.in_ok-named.ensures c.current_at.ensures (omega arith)
