use Rattle.std.proofs.Common.{sym, rules, arith, ap}
use Rattle.std.specs.Int.{w32}
use Rattle.std.proofs.lemmas.Int.{to_z-of_z}
use Rattle.std.specs.Prelude.{Ok, ℤ}
use Rattle.std.proofs.Math.Nat.{le_refl}
use Rattle.std.proofs.lemmas.Result.{err_from_is_err_and}
use Rattle.process_memory.specs.Memory.{◌>>=◌}
use Rattle.process_memory.proofs.Reading.{reads_next, reads_halt, reads_end}
use Rattle.py_stacks.specs.StackError.{stack_fault}
use Rattle.py_stacks.specs.Detail.{detail_at, detail_cost, detail_with}
use Rattle.py_stacks.specs.Locals.{asked_locals, locals_of}
use Rattle.py_stacks.specs.Records.{member_of}
use Rattle.py_stacks.proofs.detail.read_detail.Goals as goal

pub returns-in_err-line : goal.returns-in_err-line
unfolding detail_at detail_cost
returns-in_err-line g c =
    let p = err_from_is_err_and c.from_residual.result c.from_residual.ensures.1 in
    rw p.1 (reads_halt _ p.0 (λ m line. asked_locals c.args.asked.locals c.args.layout.now m (member_of c.args.records.now) >>= (λ locals. Ok (detail_with line locals))) c.in_err-line.ensures (ap stack_fault p.2) (omega arith))

pub returns-in_err-locals : goal.returns-in_err-locals
unfolding detail_at detail_cost
returns-in_err-locals g c =
    let p = err_from_is_err_and c.from_residual-in_err-locals.result c.from_residual-in_err-locals.ensures.1 in
    rw p.1 (reads_next _ (λ m line. asked_locals c.args.asked.locals c.args.layout.now m (member_of c.args.records.now) >>= (λ locals. Ok (detail_with line locals))) c.in_ok-line.ensures (reads_halt _ p.0 (λ m locals. Ok (detail_with c.in_ok-line.line locals)) c.in_err-locals.ensures (ap stack_fault p.2) (le_refl _)) (le_refl _))

pub returns : goal.returns
unfolding detail_at detail_cost
returns g c =
    reads_next _ (λ m line. asked_locals c.args.asked.locals c.args.layout.now m (member_of c.args.records.now) >>= (λ locals. Ok (detail_with line locals))) c.in_ok-line.ensures
    (reads_next _ (λ m locals. Ok (detail_with c.in_ok-line.line locals)) c.in_ok-locals.ensures
    (reads_end 0 (ap (λ (z : ℤ). detail_with z (locals_of c.in_ok-locals.locals)) (sym (to_z-of_z w32 _ (search rules))))) (le_refl _))
    (omega arith)
