use Rattle.std.proofs.Common.{ap, arith}
use Rattle.std.proofs.lemmas.Result.{err_from_is_err_and}
use Rattle.process_memory.proofs.Reading.{reads_halt, reads_next}
use Rattle.py_stacks.specs.StackError.{stack_fault}
use Rattle.coroutine_frames.specs.Frames.{there_at}
use Rattle.coroutine_frames.proofs.frame.read_there.Goals as goal

pub returns-in_err-read_records : goal.returns-in_err-read_records
unfolding there_at
returns-in_err-read_records g c =
    let p = err_from_is_err_and c.from_residual.result c.from_residual.ensures.1 in
    rw p.1 (reads_halt 8 p.0 _ c.in_err-read_records.ensures.answer (ap stack_fault p.2) (omega arith))

pub returns : goal.returns
unfolding there_at
returns g c = reads_next 8 _ c.in_ok-read_records.ensures.answer c.read_said.ensures (omega arith)
