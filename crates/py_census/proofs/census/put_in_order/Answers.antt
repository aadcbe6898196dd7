use Rattle.std.proofs.Common.{rules}
use Rattle.std.proofs.lemmas.List.Sorted.{answers_always}
use Rattle.py_census.proofs.Orders.{in_order, on_ok, rank}
use Rattle.py_census.proofs.census.put_in_order.Goals as goal

pub returns-clause-order : goal.returns-clause-order
returns-clause-order c = on_ok c.sort_by_key.result c.sort_by_key.ensures.sorted
    (λ sorted. in_order c.args.classes.now.items c.sort_by_key.new.self.items c.requires.ascending c.requires.capped
    c.sort_by_key.ensures.permutation
    (sorted rank (answers_always _ _ _ (λ f a r g h. search rules)))
    (c.sort_by_key.ensures.stable rank (answers_always _ _ _ (λ f a r g h. search rules))))
