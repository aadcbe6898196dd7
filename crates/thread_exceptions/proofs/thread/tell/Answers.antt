use Rattle.std.proofs.Common.{◌≡◌, ◌≤◌, arith, ap, length}
use Rattle.std.proofs.lemmas.Result.{err_from_is_err_and}
use Rattle.process_memory.proofs.Reading.{reading_gives}
use Rattle.thread_exceptions.proofs.Telling.{items_limit, thread_told}
use Rattle.thread_exceptions.proofs.ThreadSteps.{reading_and}
use Rattle.thread_exceptions.proofs.thread.tell.Goals as goal

pub returns-in_err-raised : goal.returns-in_err-raised
returns-in_err-raised g c =
    let p = err_from_is_err_and c.from_residual.result c.from_residual.ensures.1 in
    rw p.1 (reading_gives _ _ c.in_err-raised.ensures (omega arith) (λ m h. tt))

pub returns-in_err-items : goal.returns-in_err-items
returns-in_err-items g c =
    let p = err_from_is_err_and c.from_residual-in_err-items.result c.from_residual-in_err-items.ensures.1 in
    rw p.1 (reading_gives _ _ (reading_and c.in_ok-raised.ensures c.in_err-items.ensures) (omega arith) (λ m h. tt))

pub returns-in_err-handled : goal.returns-in_err-handled
returns-in_err-handled g c =
    let p = err_from_is_err_and c.from_residual-in_err-handled.result c.from_residual-in_err-handled.ensures.1 in
    let few : length c.in_ok-items.items.members.items ≤ 4096 = items_limit c.args.places.now c.args.thread
    c.in_ok-items.items c.in_ok-items.ensures in
    rw p.1
    (reading_gives _ _ (reading_and c.in_ok-raised.ensures
    (reading_and c.in_ok-items.ensures c.in_err-handled.ensures))
    (omega (arith, few, ap length c.deref.ensures.value)) (λ m h. tt))

pub returns-in_err-roots : goal.returns-in_err-roots
returns-in_err-roots g c =
    let p = err_from_is_err_and c.from_residual-in_err-roots.result c.from_residual-in_err-roots.ensures.1 in
    let few : length c.in_ok-items.items.members.items ≤ 4096 = items_limit c.args.places.now c.args.thread
    c.in_ok-items.items c.in_ok-items.ensures in
    rw p.1
    (reading_gives _ _ (reading_and c.in_ok-raised.ensures
    (reading_and c.in_ok-items.ensures c.in_ok-handled.ensures))
    (omega (arith, few, ap length c.deref.ensures.value)) (λ m h. tt))

pub returns-in_err-met : goal.returns-in_err-met
returns-in_err-met g c =
    let p = err_from_is_err_and c.from_residual-in_err-met.result c.from_residual-in_err-met.ensures.1 in
    let few : length c.in_ok-items.items.members.items ≤ 4096 = items_limit c.args.places.now c.args.thread
    c.in_ok-items.items c.in_ok-items.ensures in
    rw p.1 (reading_gives _ _ (reading_and c.in_ok-raised.ensures (reading_and c.in_ok-items.ensures
    (reading_and c.in_ok-handled.ensures c.in_err-met.ensures.right)))
    (omega (arith, few, ap length c.deref.ensures.value)) (λ m h. tt))

pub returns : goal.returns
returns g c =
    let few : length c.in_ok-items.items.members.items ≤ 4096 = items_limit c.args.places.now c.args.thread
    c.in_ok-items.items c.in_ok-items.ensures in
    let handled = rw c.deref.ensures.value at c.in_ok-handled.ensures in
    let roots = rw c.deref-2.ensures.value at c.in_ok-roots.ensures in
    let met = rw c.deref-3.ensures.value at c.in_ok-met.ensures.right in
    reading_gives _ _ (reading_and c.in_ok-raised.ensures (reading_and c.in_ok-items.ensures
    (reading_and handled met))) (omega (arith, few))
    (λ m h. thread_told c.args.places.now m c.args.thread _ _ _ _ _ h.0 h.1.0 h.1.1.0 roots h.1.1.1)
