use Rattle.std.proofs.Common.{arith, ap, refl}
use Rattle.std.proofs.lemmas.Result.{err_from_is_err_and}
use Rattle.std.proofs.Math.Nat.{le_refl}
use Rattle.process_memory.proofs.Reading.{reads_next, reads_halt, reads_end}
use Rattle.py_stacks.specs.StackError.{stack_fault}
use Rattle.py_stacks.specs.Threads.{trace_at}
use Rattle.py_stacks.proofs.stacks.walk_stack_trace.Goals as goal

pub returns-in_err-trace : goal.returns-in_err-trace
unfolding trace_at
returns-in_err-trace g c =
    let p = err_from_is_err_and c.from_residual.result c.from_residual.ensures.1 in
    rw p.1 (reads_halt _ p.0 _ c.in_err-trace.ensures (ap stack_fault p.2) (le_refl _))

pub returns : goal.returns
unfolding trace_at
returns g c = reads_next _ _ c.in_ok-trace.ensures (reads_end 0 refl) (omega arith)
