use Rattle.std.proofs.Common.{◌∙◌, ap, arith}
use Rattle.native_pairs.specs.Order.{calls_in}
use Rattle.native_pairs.proofs.Orders.{fewer}
use Rattle.native_pairs.proofs.order.pair_by_order.Goals as goal

pub returns-then-calls-runs-eq1-clause-once : goal.returns-then-calls-runs-eq1-clause-once
returns-then-calls-runs-eq1-clause-once c =
    ap calls_in c.in_ok-all-2.ensures ∙ fewer c.args.evals.now c.args.runs (omega arith)
