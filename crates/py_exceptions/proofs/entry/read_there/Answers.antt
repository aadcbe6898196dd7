use Rattle.std.proofs.Common.{ap, arith}
use Rattle.std.proofs.lemmas.Result.{err_from_is_err_and}
use Rattle.process_memory.proofs.Reading.{reads_halt, reads_next}
use Rattle.py_builtins.proofs.Consulted.{consulting_short}
use Rattle.py_stacks.specs.StackError.{stack_fault}
use Rattle.py_exceptions.specs.Frames.{there_at}
use Rattle.py_exceptions.proofs.entry.read_there.Goals as goal

pub returns-in_err-at : goal.returns-in_err-at
unfolding there_at
returns-in_err-at g c =
    let p = err_from_is_err_and c.from_residual.result c.from_residual.ensures.1 in
    rw p.1 (reads_halt 9 p.0 _ c.in_err-at.ensures p.2 (omega arith))

pub returns-in_err-read_records : goal.returns-in_err-read_records
unfolding there_at
returns-in_err-read_records g c =
    let p = err_from_is_err_and c.from_residual-in_err-read_records.result c.from_residual-in_err-read_records.ensures.1
    in
    rw p.1 (reads_next 9 _ c.in_ok-at.ensures
    (reads_halt 8 p.0 _ (consulting_short c.in_err-read_records.ensures.answer) (ap stack_fault p.2) (omega arith))
    (omega arith))

pub returns : goal.returns
unfolding there_at
returns g c = reads_next 9 _ c.in_ok-at.ensures
    (reads_next 8 _ (consulting_short c.in_ok-read_records.ensures.answer) c.read_called.ensures (omega arith))
    (omega arith)
