use Rattle.std.proofs.Common.{◌≡◌, rules, sym, ◌∙◌, subst}
use Rattle.std.proofs.lemmas.Result.{IfOk-weaker}
use Rattle.std.proofs.lemmas.List.Sorted.{IsNonDecreasingBy-from_sort_by_key}
use Rattle.process_memory.specs.declared.memory.Span.{Span}
use Rattle.core_slim.specs.Joined.{AreJoined, joined}
use Rattle.core_slim.proofs.Joining.{AreSorted, are_sorted, first_joins, none_joins}
use Rattle.core_slim.proofs.joined.joined_pieces.Goals as goal

pub join-requires : goal.join-requires
join-requires c =
    let rise =
    IsNonDecreasingBy-from_sort_by_key (λ (s : Span). s.start) _ c.sort_unstable_by_key.ensures.sorted
    (λ a r q k. search rules) in
    let is : AreSorted c.args.ranges.now c.sort_unstable_by_key.new.self.items =
    are_sorted c.args.ranges.now c.in_ok-sorted.sorted.items c.sort_unstable_by_key.new.self.items c.requires
    c.in_ok-sorted.ensures c.sort_unstable_by_key.ensures.permutation rise in
    let first = subst (AreSorted c.args.ranges.now) (sym c.deref.ensures.value ∙ c.in-Some.ensures.cases.0) is in
    let h = first_joins c.args.ranges.now c.in-Some.first.now c.in-Some.others.now first in
    record { some = h.0; ascends = h.1; first_fits = h.2; fit = h.3 }

pub returns-in-Some : goal.returns-in-Some
returns-in-Some c =
    let rise =
    IsNonDecreasingBy-from_sort_by_key (λ (s : Span). s.start) _ c.sort_unstable_by_key.ensures.sorted
    (λ a r q k. search rules) in
    let is : AreSorted c.args.ranges.now c.sort_unstable_by_key.new.self.items =
    are_sorted c.args.ranges.now c.in_ok-sorted.sorted.items c.sort_unstable_by_key.new.self.items c.requires
    c.in_ok-sorted.ensures c.sort_unstable_by_key.ensures.permutation rise in
    let first = subst (AreSorted c.args.ranges.now) (sym c.deref.ensures.value ∙ c.in-Some.ensures.cases.0) is in
    let h = first_joins c.args.ranges.now c.in-Some.first.now c.in-Some.others.now first in
    IfOk-weaker c.join.result (λ pieces. pieces.items ≡ joined c.in-Some.first.now c.in-Some.others.now)
    (λ pieces. AreJoined c.args.ranges.now pieces.items)
    (λ pieces same. subst (AreJoined c.args.ranges.now) (sym same) h.4) c.join.ensures

pub returns : goal.returns
returns c =
    let rise =
    IsNonDecreasingBy-from_sort_by_key (λ (s : Span). s.start) _ c.sort_unstable_by_key.ensures.sorted
    (λ a r q k. search rules) in
    let is : AreSorted c.args.ranges.now c.sort_unstable_by_key.new.self.items =
    are_sorted c.args.ranges.now c.in_ok-sorted.sorted.items c.sort_unstable_by_key.new.self.items c.requires
    c.in_ok-sorted.ensures c.sort_unstable_by_key.ensures.permutation rise in
    none_joins c.args.ranges.now c.deref.result.now c.new.result.items
    (subst (AreSorted c.args.ranges.now) (sym c.deref.ensures.value) is) c.in-None.ensures.cases c.new.ensures.items
