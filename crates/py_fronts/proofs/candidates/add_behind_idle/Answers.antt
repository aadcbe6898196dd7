use Rattle.std.proofs.Common.{arith}
use Rattle.std.proofs.lemmas.Result.{err_from_is_err_and}
use Rattle.py_fronts.proofs.IdleSteps.{following_done, following_ends, following_full, following_init, following_lost}
use Rattle.py_fronts.proofs.IdleSteps.{following_more}
use Rattle.py_fronts.proofs.candidates.add_behind_idle.Goals as goal

pub loop-passed-init : goal.loop-passed-init
loop-passed-init g c = following_init c.args.layout.now c.args.place c.args.first c.args.words.now.items _

pub returns-in_err-next : goal.returns-in_err-next
returns-in_err-next g c =
    let p = err_from_is_err_and c.from_residual.result c.from_residual.ensures.1 in
    rw p.1 (following_lost p.0 c.in_err-next.field-0.0 c.loop-passed.invariant (omega arith) c.in_err-next.ensures p.2)

pub returns-in-None : goal.returns-in-None
returns-in-None g c = following_ends c.in_ok-next.field-0 c.loop-passed.invariant (omega arith) c.in-None.is
    c.in_ok-next.ensures

pub returns-in_err-push : goal.returns-in_err-push
returns-in_err-push g c =
    let p = err_from_is_err_and c.from_residual-in_err-push.result c.from_residual-in_err-push.ensures.1 in
    rw p.1 (following_full p.0 c.loop-passed.invariant (omega arith) c.in_ok-next.ensures p.2)

pub loop-passed-preserved : goal.loop-passed-preserved
loop-passed-preserved g c = following_more _ c.in-Some.next c.in_ok-next.field-0 c.loop-passed.invariant
    (omega arith) c.in-Some.is c.in_ok-next.ensures c.in_ok-push.ensures.items

pub returns : goal.returns
returns g c = following_done c.loop-passed.invariant (omega arith)
