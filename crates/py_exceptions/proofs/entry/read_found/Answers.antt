use Rattle.std.proofs.Common.{ap, arith, refl}
use Rattle.std.proofs.lemmas.Result.{err_from_is_err_and}
use Rattle.process_memory.proofs.Reading.{reads_end, reads_halt, reads_next}
use Rattle.py_stacks.specs.StackError.{stack_fault}
use Rattle.py_exceptions.specs.Frames.{frame_found_at}
use Rattle.py_exceptions.proofs.entry.read_found.Goals as goal

pub returns-in_err-point : goal.returns-in_err-point
unfolding frame_found_at
returns-in_err-point g c =
    let p = err_from_is_err_and c.from_residual.result c.from_residual.ensures.1 in
    rw p.1 (reads_halt 10 p.0 _ c.in_err-point.ensures (ap stack_fault p.2) (omega arith))

pub returns-in_err-called : goal.returns-in_err-called
unfolding frame_found_at
returns-in_err-called g c =
    let p = err_from_is_err_and c.from_residual-in_err-called.result c.from_residual-in_err-called.ensures.1 in
    rw p.1 (reads_next 10 _ c.in_ok-point.ensures (reads_halt 9 p.0 _ c.in_err-called.ensures (ap stack_fault p.2)
    (omega arith)) (omega arith))

pub returns : goal.returns
unfolding frame_found_at
returns g c = reads_next 10 _ c.in_ok-point.ensures (reads_next {k = 0} 9 _ c.in_ok-called.ensures (reads_end 0 refl)
    (omega arith)) (omega arith)
