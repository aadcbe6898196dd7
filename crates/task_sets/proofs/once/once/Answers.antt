use Rattle.std.proofs.Common.{◌≡◌, ◌∙◌, arith, false, get_or, sym, true}
use Rattle.std.specs.BTreeSet.{contains}
use Rattle.std.specs.Ordering.{nat_cmp}
use Rattle.py_coroutines.proofs.Sorted.{set_added}
use Rattle.task_sets.proofs.Onces.{keeping_done, keeping_met, keeping_new, known_met, known_new}
use Rattle.task_sets.proofs.once.once.Goals as goal
use Rattle.task_sets.proofs.once.once.Goals.{then-not-contains+in_ok-push+in_ok-insert, else-not-contains}

pub loop-address-preserved : goal.loop-address-preserved
loop-address-preserved c =
    let x = get_or c.args.addresses.now c.loop-address.address-index 0 in
    elim c.if-not-contains.branch [
      | then-not-contains+in_ok-push+in_ok-insert w ↦
          let new : contains nat_cmp c.loop-address.met x ≡ false = sym c.contains.ensures ∙ w.if-not-contains.true in
          let kept = keeping_new w.insert.new.self.keys c.loop-address.invariant c.loop-address-test.true
          (known_new c.loop-address.met x c.loop-address.invariant new)
          (set_added c.loop-address.met w.insert.new.self x w.in_ok-insert.ensures.updates) in
          rw (w.list-is, w.met-is, w.in_ok-push.ensures.items) kept
      | else-not-contains w ↦
          let met : contains nat_cmp c.loop-address.met x ≡ true = sym c.contains.ensures ∙ w.if-not-contains.false in
          rw (w.list-is, w.met-is) (keeping_met c.loop-address.invariant c.loop-address-test.true
          (known_met c.loop-address.met x c.loop-address.invariant met))
    ]

pub returns : goal.returns
returns c = keeping_done c.loop-address.invariant
    (omega (arith, c.loop-address-test.false, c.loop-address.auto.address-index-end))
