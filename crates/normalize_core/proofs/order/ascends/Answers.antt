use Rattle.std.proofs.lemmas.List.Sorted.{non_decreasing_from_is_sorted}
use Rattle.normalize_core.proofs.Orders.{ascends_is}
use Rattle.normalize_core.proofs.order.ascends.Goals as goal

pub returns : goal.returns
returns c =
    ascends_is c.args.addrs.now c.is_sorted.result
    (non_decreasing_from_is_sorted c.args.addrs.now c.is_sorted.result c.is_sorted.ensures.cases)
