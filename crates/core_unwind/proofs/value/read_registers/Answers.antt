use Rattle.std.proofs.Common.{ℕ, arith}
use Rattle.std.proofs.lemmas.List.{length-replicate}
use Rattle.std.proofs.lemmas.Result.{err_from_is_err_and}
use Rattle.std.specs.Prelude.{Option, None}
use Rattle.core_unwind.proofs.Filling.{filling_done, filling_init, filling_lost, filling_more}
use Rattle.core_unwind.specs.Values.{value_of}
use Rattle.core_unwind.proofs.value.read_registers.Goals as goal

pub loop-register-init : goal.loop-register-init
loop-register-init g c = let none : Option ℕ = None in filling_init 257 (λ m k. value_of c.args.rules.now
    c.args.registers.now m c.args.cfa k) _ _
    (length-replicate 32 none)

pub returns-in_err-value : goal.returns-in_err-value
returns-in_err-value g c =
    let p = err_from_is_err_and c.from_residual.result c.from_residual.ensures.1 in
    rw p.1 (filling_lost _ c.loop-register.invariant (omega arith) c.in_err-value.ensures (λ m. tt))

pub loop-register-preserved : goal.loop-register-preserved
loop-register-preserved g c = filling_more c.in_ok-value.value c.loop-register.invariant (omega arith)
    c.in_ok-value.ensures

pub returns : goal.returns
returns g c = filling_done c.loop-register.invariant (omega arith)
