use Rattle.std.proofs.Common.{ap, arith}
use Rattle.std.proofs.lemmas.Result.{err_from_is_err_and}
use Rattle.process_memory.proofs.Reading.{reads_halt, reads_next}
use Rattle.process_memory.specs.Seen.{read_fault}
use Rattle.py_coroutines.specs.Objects.{coroutine_at}
use Rattle.py_coroutines.proofs.turn.read_coroutine.Goals as goal

pub returns-in_err-standing : goal.returns-in_err-standing
unfolding coroutine_at
returns-in_err-standing g c =
    let p = err_from_is_err_and c.from_residual.result c.from_residual.ensures.1 in
    rw p.1 (reads_halt 5 p.0 _ c.in_err-standing.ensures (ap read_fault p.2) (omega arith))

pub returns : goal.returns
unfolding coroutine_at
returns g c = reads_next 5 _ c.in_ok-standing.ensures c.read_awaited.ensures (omega arith)
