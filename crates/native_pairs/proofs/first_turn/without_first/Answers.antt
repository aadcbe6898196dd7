use Rattle.std.proofs.Common.{drop, add-one}
use Rattle.std.proofs.Math.Seq.{drop-cons}
use Rattle.std.proofs.lemmas.List.{drop_all}
use Rattle.native_pairs.specs.Order.{without_first}
use Rattle.native_pairs.proofs.Orders.{turn, turned}
use Rattle.native_pairs.proofs.first_turn.without_first.Goals as goal

pub loop-is_eval-preserved : goal.loop-is_eval-preserved
loop-is_eval-preserved c = rw (add-one c.loop-is_eval.is_eval-index)
    (turn (without_first c.args.evals.now) c.loop-is_eval.others.items c.push.new.self.items
    (drop c.loop-is_eval.is_eval-index c.args.evals.now) _
    c.loop-is_eval.is_first _ c.is_turn.result c.stays_first-is_first.result
    (drop-cons c.args.evals.now c.loop-is_eval.is_eval-index _ c.loop-is_eval-test.true)
    c.loop-is_eval.invariant c.in_ok-push.ensures.items c.is_turn.ensures c.stays_first-is_first.ensures)

pub returns : goal.returns
returns c = turned (without_first c.args.evals.now) c.loop-is_eval.others.items
    (drop c.loop-is_eval.is_eval-index c.args.evals.now) c.loop-is_eval.is_first
    (drop_all c.loop-is_eval.is_eval-index c.args.evals.now c.loop-is_eval-test.false) c.loop-is_eval.invariant
