use Rattle.std.proofs.Common.{arith, get_or, length, take, ◌<◌, ◌∙◌}
use Rattle.std.proofs.lemmas.List.{length-take-le, take_more}
use Rattle.std.proofs.lemmas.Result.{err_from_is_err_and}
use Rattle.py_fronts.proofs.Shown.{show_init, show_lost, show_more}
use Rattle.py_fronts.proofs.standing.read_standings.Goals as goal

pub loop-at-init : goal.loop-at-init
loop-at-init g c = rw c.new-standings.ensures.items (show_init c.args.asked c.args.layout.now _)

pub returns-in_err-standing : goal.returns-in_err-standing
returns-in_err-standing g c =
    let p = err_from_is_err_and c.from_residual.result c.from_residual.ensures.1 in
    let here : length (take c.loop-at.at-index c.args.members.now) < length c.args.members.now = omega (arith, length-take-le c.loop-at.at-index c.args.members.now (omega arith)) in
    rw p.1 (show_lost p.0 (length c.args.members.now) c.loop-at.invariant here c.in_err-standing.ensures (λ m h. p.2 ∙ h))

pub returns-in_err-push : goal.returns-in_err-push
returns-in_err-push g c =
    let p = err_from_is_err_and c.from_residual-in_err-push.result c.from_residual-in_err-push.ensures.1 in
    let here : length (take c.loop-at.at-index c.args.members.now) < length c.args.members.now = omega (arith, length-take-le c.loop-at.at-index c.args.members.now (omega arith)) in
    rw p.1 (show_lost p.0 (length c.args.members.now) c.loop-at.invariant here c.in_ok-standing.ensures (λ m h. p.2))

pub loop-at-preserved : goal.loop-at-preserved
loop-at-preserved g c =
    rw (take_more c.args.members.now c.loop-at.at-index 0 c.loop-at-test.true, c.in_ok-push.ensures.items)
    (show_more (get_or c.args.members.now c.loop-at.at-index 0) c.in_ok-standing.standing c.loop-at.invariant c.in_ok-standing.ensures)
