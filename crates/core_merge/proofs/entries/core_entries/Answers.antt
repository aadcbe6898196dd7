use Rattle.std.proofs.Common.{ap, rules, sym, ◌∙◌}
use Rattle.normalize_core.specs.Order.{in_order}
use Rattle.core_merge.specs.CoreEntries.{AreOrdered}
use Rattle.core_merge.proofs.Chain.{entries_go, entries_overlap}
use Rattle.std.proofs.lemmas.List.Sorted.{answers_always}
use Rattle.core_merge.proofs.Sorted.{by_pairs, pair_of, stable_by_pairs}
use Rattle.core_merge.proofs.entries.core_entries.Goals as goal

pub returns-then-not-in_order : goal.returns-then-not-in_order
returns-then-not-in_order c =
    let items = c.sort_by_key.new.self.items in
    let ordered : AreOrdered c.in_ok-entries.entries.items items = record {
      same = c.in_ok-sort_by_key.ensures.permutation;
      sorted = by_pairs items (c.in_ok-sort_by_key.ensures.sorted pair_of (answers_always _ _ _ (λ f a r g h. search rules)));
      stable = stable_by_pairs c.in_ok-entries.entries.items items (c.in_ok-sort_by_key.ensures.stable pair_of (answers_always _ _ _ (λ f a r g h. search rules)));
    } in
    record {
      right = entries_overlap c.args.core.now c.in_ok-entries.entries items c.in_ok-entries.ensures ordered
          (ap in_order (sym c.deref.ensures.value) ∙ sym c.in_order.ensures ∙ c.if-not-in_order.true);
    }

pub returns : goal.returns
returns c =
    let items = c.sort_by_key.new.self.items in
    let ordered : AreOrdered c.in_ok-entries.entries.items items = record {
      same = c.in_ok-sort_by_key.ensures.permutation;
      sorted = by_pairs items (c.in_ok-sort_by_key.ensures.sorted pair_of (answers_always _ _ _ (λ f a r g h. search rules)));
      stable = stable_by_pairs c.in_ok-entries.entries.items items (c.in_ok-sort_by_key.ensures.stable pair_of (answers_always _ _ _ (λ f a r g h. search rules)));
    } in
    record {
      right = entries_go c.args.core.now c.in_ok-entries.entries c.sort_by_key.new.self c.in_ok-entries.ensures ordered
          (ap in_order (sym c.deref.ensures.value) ∙ sym c.in_order.ensures ∙ c.if-not-in_order.false);
    }
