use Rattle.std.proofs.Common.{refl, arith, ap}
use Rattle.std.proofs.Math.Nat.{le_refl}
use Rattle.std.specs.Prelude.{Ok, Some}
use Rattle.std.proofs.lemmas.Result.{err_from_is_err_and}
use Rattle.process_memory.proofs.Reading.{reads_next, reads_halt, reads_end}
use Rattle.py_stacks.specs.StackError.{stack_fault}
use Rattle.py_stacks.proofs.locals.read_locals.Goals as goal

pub returns-then-not-asked : goal.returns-then-not-asked
returns-then-not-asked g c = rw c.if-not-asked.true (reads_end _ refl)

pub returns-in_err-locals : goal.returns-in_err-locals
returns-in_err-locals g c =
    let p = err_from_is_err_and c.from_residual.result c.from_residual.ensures.1 in
    rw (c.if-not-asked.false, p.1) (reads_halt _ p.0 (λ m locals. Ok (Some locals)) c.in_err-locals.ensures (ap stack_fault p.2) (le_refl _))

pub returns : goal.returns
returns g c = rw c.if-not-asked.false (reads_next _ (λ m locals. Ok (Some locals)) c.in_ok-locals.ensures (reads_end 0 refl) (omega arith))
