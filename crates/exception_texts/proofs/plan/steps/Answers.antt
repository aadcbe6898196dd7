use Rattle.exception_texts.specs.Plan.{state_of}
use Rattle.exception_texts.proofs.Turns.{none_yet, one_more}
use Rattle.exception_texts.proofs.plan.steps.Goals as goal

pub loop-init : goal.loop-init
loop-init c = none_yet c.args.met.now (state_of c.args.plan.now)

pub loop-preserved : goal.loop-preserved
loop-preserved c = one_more c.args.met.now (state_of c.args.plan.now) _ _ c.loop.counter c.loop.invariant c.in_ok-step.ensures
