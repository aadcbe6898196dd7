use Rattle.std.proofs.Common.{ap, arith, refl}
use Rattle.std.proofs.lemmas.Result.{err_from_is_err_and}
use Rattle.process_memory.proofs.Reading.{reads_end, reads_halt, reads_next}
use Rattle.py_stacks.specs.StackError.{stack_fault}
use Rattle.coroutine_frames.specs.Frames.{placed_at}
use Rattle.coroutine_frames.proofs.frame.read_placed.Goals as goal

pub returns-in-None : goal.returns-in-None
unfolding placed_at
returns-in-None g c = rw c.in-None.is (reads_end 8 refl)

pub returns-in_err-said-in-Some : goal.returns-in_err-said-in-Some
unfolding placed_at
returns-in_err-said-in-Some g c =
    let p = err_from_is_err_and c.from_residual.result c.from_residual.ensures.1 in
    rw (p.1, c.in-Some.is) (reads_halt 8 p.0 _ c.in_err-said-in-Some.ensures (ap stack_fault p.2) (omega arith))

pub returns-in_ok-said-in-Some : goal.returns-in_ok-said-in-Some
unfolding placed_at
returns-in_ok-said-in-Some g c = rw c.in-Some.is (reads_next {k = 0} 8 _ c.in_ok-said-in-Some.ensures (reads_end 0 refl) (omega arith))
