use Rattle.std.proofs.Common.{◌∙◌}
use Rattle.std.proofs.lemmas.Result.{err_from_is_err_and}
use Rattle.py_fronts.proofs.Locking.{locking_init, locking_lost, locking_more}
use Rattle.py_fronts.proofs.salvaged.with_locks.Goals as goal

pub loop-front-init : goal.loop-front-init
loop-front-init g c = rw (c.into_iter-front-iterator.ensures.into_iter_gives.0, c.new-interpreters.ensures.items)
    (locking_init c.args.fronts.items _)

pub returns-in_err-lock : goal.returns-in_err-lock
returns-in_err-lock g c =
    let p = err_from_is_err_and c.from_residual.result c.from_residual.ensures.1 in
    rw p.1 (locking_lost p.0 c.in-Some.front _ c.in-Some.ensures.steps.0 c.loop-front.invariant c.in_err-lock.ensures.answer
    (λ m h. p.2 ∙ h))

pub loop-front-preserved : goal.loop-front-preserved
loop-front-preserved g c = rw c.in_ok-push.ensures.items
    (locking_more c.in-Some.front c.in_ok-lock.lock _ c.in-Some.ensures.steps.0 c.loop-front.invariant
    c.in_ok-lock.ensures.answer)

pub returns-in_err-push : goal.returns-in_err-push
returns-in_err-push g c =
    let p = err_from_is_err_and c.from_residual-in_err-push.result c.from_residual-in_err-push.ensures.1 in
    rw p.1 (locking_lost p.0 c.in-Some.front _ c.in-Some.ensures.steps.0 c.loop-front.invariant c.in_ok-lock.ensures.answer
    (λ m h. p.2))
