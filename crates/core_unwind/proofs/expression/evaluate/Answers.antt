use Rattle.std.proofs.Common.{◌≡◌, ◌≢◌, ◌∙◌, arith, length, sym}
use Rattle.std.proofs.lemmas.Bool.Decides.{nat_tests}
use Rattle.std.proofs.lemmas.List.{take_rest}
use Rattle.std.proofs.lemmas.Result.{err_from_is_err_and}
use Rattle.core_unwind.specs.Expressions.{stack_of}
use Rattle.core_unwind.proofs.Evaluating.{evaluating_bad, evaluating_end, evaluating_init, evaluating_lost}
use Rattle.core_unwind.proofs.Evaluating.{evaluating_more, evaluating_out, evaluating_stuck}
use Rattle.core_unwind.proofs.expression.evaluate.Goals as goal

pub operations-init : goal.operations-init
operations-init g c = evaluating_init c.args.registers.now c.args.first c.args.bytes.now _ _ c.begun-stack.ensures

pub returns-then-is_empty : goal.returns-then-is_empty
returns-then-is_empty g c =
    let none : length c.operations.rest.now ≡ 0 = grind (arith, nat_tests) in
    evaluating_end _ c.operations.invariant (omega arith) none c.top-value.ensures

pub returns-in-Err : goal.returns-in-Err
returns-in-Err g c =
    let some : length c.operations.rest.now ≢ 0 = grind (arith, nat_tests) in
    evaluating_bad _ c.operations.invariant (omega arith) some (sym c.in-Err.is ∙ c.operation_in.ensures.value)

pub returns-in_err-behind : goal.returns-in_err-behind
returns-in_err-behind g c =
    let p = err_from_is_err_and c.from_residual.result c.from_residual.ensures.1 in
    rw p.1 (evaluating_lost _ c.operations.invariant (omega arith) c.in_err-behind.ensures (λ m. tt))

pub returns-in-None : goal.returns-in-None
returns-in-None g c =
    let some : length c.operations.rest.now ≢ 0 = grind (arith, nat_tests) in
    evaluating_stuck c.in-Ok.read c.operations.invariant (omega arith) some
    (sym c.in-Ok.is ∙ c.operation_in.ensures.value) (rw c.in-None.is at c.in_ok-behind.ensures)

pub operations-preserved : goal.operations-preserved
operations-preserved g c =
    let some : length c.operations.rest.now ≢ 0 = grind (arith, nat_tests) in
    evaluating_more c.in-Ok.read (stack_of c.in-Some.after) _ c.operations.invariant (omega arith) some
    (sym c.in-Ok.is ∙ c.operation_in.ensures.value) (rw c.in-Some.is at c.in_ok-behind.ensures)
    (take_rest c.operations.rest.now c.in-Ok.read.size)

pub returns-then-not-is_empty : goal.returns-then-not-is_empty
returns-then-not-is_empty g c =
    let some : length c.operations.rest.now ≢ 0 = grind (arith, nat_tests) in
    evaluating_out c.operations.invariant (omega arith) some

pub returns : goal.returns
returns g c =
    let none : length c.operations.rest.now ≡ 0 = grind (arith, nat_tests) in
    evaluating_end _ c.operations.invariant (omega arith) none c.top-last.ensures
