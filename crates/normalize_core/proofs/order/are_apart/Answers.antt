use Rattle.std.proofs.Common.{rules}
use Rattle.std.proofs.lemmas.List.Sorted.{answers_always}
use Rattle.normalize_core.specs.Order.{ends_before}
use Rattle.normalize_core.proofs.Orders.{adjacent_is}
use Rattle.normalize_core.proofs.order.are_apart.Goals as goal

pub returns : goal.returns
returns c =
    adjacent_is ends_before c.args.entries.now c.is_sorted_by.result
    (c.is_sorted_by.ensures.cases ends_before (answers_always _ _ _ (λ f a r g k. search rules)))
