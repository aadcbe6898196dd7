use Rattle.std.proofs.Common.{◌≡◌, take}
use Rattle.native_pairs.specs.Order.{calls_in}
use Rattle.native_pairs.proofs.first_turn.calls_in.Given as goal

abbrev pub invariant-loop-is_eval : goal.invariant-loop-is_eval
invariant-loop-is_eval l = l.count ≡ calls_in (take l.is_eval-index l.evals)
