use Rattle.std.proofs.Common.{ap, sym, ◌∙◌, refl, nat_eq}
use Rattle.std.specs.List.{list_any}
use Rattle.std.specs.BTreeMap.{is_at}
use Rattle.std.specs.Ordering.{nat_cmp}
use Rattle.std.proofs.lemmas.List.{take_all}
use Rattle.local_values.specs.Addresses.{each_once}
use Rattle.local_values.proofs.Once.{met_again, met_new}
use Rattle.local_values.proofs.addresses.each_once.Goals as goal
use Rattle.local_values.proofs.addresses.each_once.Goals.{then-added+in_ok-push, else-added}

pub loop-addr-init : goal.loop-addr-init
loop-addr-init c = record {
  are = c.new-once.ensures.items;
  met = λ q. ap (λ ks. list_any (is_at (nat_cmp q)) ks) c.new-met.ensures.empty
      ∙ sym (ap (λ xs. list_any (nat_eq q) xs) c.new-once.ensures.items);
}

pub loop-addr-preserved : goal.loop-addr-preserved
loop-addr-preserved c = elim c.if-added.branch [
  | then-added+in_ok-push w ↦
      met_new _ c.loop-addr.invariant c.loop-addr-test.true refl (sym w.if-added.true ∙ c.in_ok-added.ensures.added)
      c.in_ok-added.ensures.updates.0 (ap (λ v. v.items) w.once-is ∙ w.in_ok-push.ensures.items)
  | else-added w ↦
      met_again _ c.loop-addr.invariant c.loop-addr-test.true refl (sym w.if-added.false ∙ c.in_ok-added.ensures.added)
      c.in_ok-added.ensures.updates.0 (ap (λ v. v.items) w.once-is)
]

pub returns : goal.returns
returns c = c.loop-addr.invariant.are
    ∙ ap each_once (take_all c.loop-addr.addr-index c.args.addresses.now c.loop-addr-test.false)
