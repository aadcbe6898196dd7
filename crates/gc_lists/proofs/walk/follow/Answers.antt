use Rattle.std.proofs.Common.{arith}
use Rattle.std.proofs.lemmas.Result.{err_from_is_err_and}
use Rattle.gc_lists.proofs.Follows.{following_full, following_init, following_lost, following_more, following_stops}
use Rattle.gc_lists.proofs.walk.follow.Goals as goal

pub members-init : goal.members-init
members-init g c = following_init _ c.new-members.result.items c.new-members.ensures.items

pub returns-in_err-turn-clause-is : goal.returns-in_err-turn-clause-is
returns-in_err-turn-clause-is g c =
    let p = err_from_is_err_and c.from_residual.result c.from_residual.ensures.1 in
    rw p.1 (following_lost _ c.members.invariant c.in_err-turn.ensures (λ m. tt))

pub returns-in-Stops-clause-is : goal.returns-in-Stops-clause-is
returns-in-Stops-clause-is g c = following_stops c.in-Stops.end c.members.invariant (rw c.in-Stops.is at c.in_ok-turn.ensures)

pub returns-in-Stops-clause-few : goal.returns-in-Stops-clause-few
returns-in-Stops-clause-few g c = c.members.invariant.within

pub returns-then-len-eq-MOST_MEMBERS-clause-is : goal.returns-then-len-eq-MOST_MEMBERS-clause-is
returns-then-len-eq-MOST_MEMBERS-clause-is g c = following_full c.members.invariant (omega (arith, c.if-len-eq-MOST_MEMBERS.true)) (rw c.in-Member.is at c.in_ok-turn.ensures)

pub returns-in_err-push-clause-is : goal.returns-in_err-push-clause-is
returns-in_err-push-clause-is g c =
    let p = err_from_is_err_and c.from_residual-in_err-push.result c.from_residual-in_err-push.ensures.1 in
    rw p.1 (following_lost _ c.members.invariant c.in_ok-turn.ensures (λ m. tt))

pub members-preserved : goal.members-preserved
members-preserved g c =
    following_more c.push.new.self.items c.members.invariant (omega (arith, c.if-len-eq-MOST_MEMBERS.false)) (rw c.in-Member.is at c.in_ok-turn.ensures) c.in_ok-push.ensures.items
