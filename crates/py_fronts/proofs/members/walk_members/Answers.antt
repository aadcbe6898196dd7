use Rattle.std.proofs.Common.{arith, ◌∙◌}
use Rattle.std.proofs.lemmas.Result.{err_from_is_err_and}
use Rattle.py_fronts.proofs.Meets.{meet_broken, meet_done, meet_full, meet_init, meet_lost, meet_more}
use Rattle.py_fronts.proofs.members.walk_members.Goals as goal

pub loop-at-init : goal.loop-at-init
loop-at-init g c = rw c.new-kept.ensures.items (meet_init c.args.layout.now c.args.limit c.args.first _)

pub returns-then-met-limit-clause-answer : goal.returns-then-met-limit-clause-answer
returns-then-met-limit-clause-answer g c = meet_full c.loop-at.invariant (omega arith) (omega arith)

pub returns-in_err-step-clause-answer : goal.returns-in_err-step-clause-answer
returns-in_err-step-clause-answer g c =
    let p = err_from_is_err_and c.from_residual.result c.from_residual.ensures.1 in
    rw p.1 (meet_lost p.0 c.loop-at.invariant (omega (arith, c.loop-at.invariant.within)) c.in_err-step.ensures (λ m h. p.2 ∙ h))

pub returns-in-Broken-clause-answer : goal.returns-in-Broken-clause-answer
returns-in-Broken-clause-answer g c =
    let step = rw c.in-Broken.is at c.in_ok-step.ensures in
    meet_broken c.in-Broken.end c.loop-at.invariant (omega arith) (omega (arith, c.loop-at.invariant.within)) step

pub returns-in_err-add_kept-clause-answer : goal.returns-in_err-add_kept-clause-answer
returns-in_err-add_kept-clause-answer g c =
    let p = err_from_is_err_and c.from_residual-in_err-add_kept.result c.from_residual-in_err-add_kept.ensures.1 in
    rw p.1 (meet_lost p.0 c.loop-at.invariant (omega (arith, c.loop-at.invariant.within)) c.in_ok-step.ensures (λ m h. p.2))

pub loop-at-preserved : goal.loop-at-preserved
loop-at-preserved g c =
    let step = rw c.in-To.is at c.in_ok-step.ensures in
    meet_more c.loop-at.invariant (omega arith) (omega (arith, c.loop-at.invariant.within)) step c.in_ok-add_kept.ensures

pub returns-clause-answer : goal.returns-clause-answer
returns-clause-answer g c = meet_done c.loop-at.invariant (omega arith)
