use Rattle.std.proofs.Common.{◌≡◌}
use Rattle.exception_texts.specs.Plan.{state_of, turns}
use Rattle.exception_texts.proofs.plan.steps.Given as goal

abbrev pub invariant-loop : goal.invariant-loop
invariant-loop l = state_of l.plan ≡ turns l.met l.counter (state_of l.initial.plan)
