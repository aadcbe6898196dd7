use Rattle.std.proofs.Common.{◌≡◌, ◌++◌, cond, drop}
use Rattle.native_pairs.specs.Order.{without_first}
use Rattle.native_pairs.proofs.first_turn.without_first.Given as goal

abbrev pub invariant-loop-is_eval : goal.invariant-loop-is_eval
invariant-loop-is_eval l = without_first l.evals ≡ l.others.items
    ++ cond l.is_first (without_first (drop l.is_eval-index l.evals)) (drop l.is_eval-index l.evals)
