use Rattle.std.proofs.Common.{◌≡◌, ◌∙◌, arith, false, get_or, subst, sym, true}
use Rattle.std.specs.BTreeSet.{contains}
use Rattle.std.specs.Ordering.{nat_cmp}
use Rattle.std.proofs.lemmas.List.{take_all}
use Rattle.task_edges.specs.Leading.{AddsTo}
use Rattle.task_edges.proofs.Adding.{adding_init, adding_met, adding_new}
use Rattle.task_edges.proofs.Sets.{set_added}
use Rattle.task_edges.proofs.search.add_new.Goals as goal
use Rattle.task_edges.proofs.search.add_new.Goals.{then-not-contains+in_ok-push+in_ok-insert, else-not-contains}

pub loop-address-init : goal.loop-address-init
loop-address-init c = adding_init c.args.list.now.items c.args.addresses.now c.args.met.now.keys c.requires.same

pub loop-address-preserved : goal.loop-address-preserved
loop-address-preserved c =
    let x = get_or c.args.addresses.now c.loop-address.address-index 0 in
    elim c.if-not-contains.branch [
      | then-not-contains+in_ok-push+in_ok-insert w ↦
          let new : contains nat_cmp c.loop-address.met x ≡ false = sym c.contains.ensures ∙ w.if-not-contains.true in
          rw (w.list-is, w.met-is, w.in_ok-push.ensures.items)
          (adding_new c.loop-address.met w.insert.new.self.keys c.loop-address.invariant c.loop-address-test.true new
          (set_added c.loop-address.met w.insert.new.self x w.in_ok-insert.ensures.updates))
      | else-not-contains w ↦
          let met : contains nat_cmp c.loop-address.met x ≡ true = sym c.contains.ensures ∙ w.if-not-contains.false in
          rw (w.list-is, w.met-is) (adding_met c.loop-address.met c.loop-address.invariant c.loop-address-test.true met)
    ]

pub returns-clause-same : goal.returns-clause-same
returns-clause-same c = c.loop-address.invariant.same

pub returns-clause-added : goal.returns-clause-added
returns-clause-added c =
    subst (λ xs. AddsTo c.args.list.now.items xs c.loop-address.list.items)
    (take_all c.loop-address.address-index c.args.addresses.now (omega (arith, c.loop-address-test.false)))
    c.loop-address.invariant.adds
