use Rattle.std.proofs.Common.{◌≡◌, ◌∙◌, arith, map, subst, sym}
use Rattle.std.specs.BTreeSet.{contains}
use Rattle.std.specs.List.{filter}
use Rattle.std.specs.Ordering.{nat_cmp}
use Rattle.std.proofs.lemmas.List.{take_all}
use Rattle.task_edges.specs.Waits.{task_of}
use Rattle.task_edges.proofs.Answering.{among_kept, among_more}
use Rattle.task_edges.proofs.waits.tasks_among.Goals as goal
use Rattle.task_edges.proofs.waits.tasks_among.Goals.{then-contains+in_ok-push, else-contains}

pub loop-one-preserved : goal.loop-one-preserved
loop-one-preserved c =
    elim c.if-contains.branch [
      | then-contains+in_ok-push w ↦
          rw (w.list-is, w.in_ok-push.ensures.items)
          (among_more (contains nat_cmp c.args.addresses.now) c.args.waiting.now c.loop-one.one-index
          c.loop-one.list.items c.loop-one-test.true (sym c.contains.ensures ∙ w.if-contains.true) c.loop-one.invariant)
      | else-contains w ↦
          rw w.list-is
          (among_kept (contains nat_cmp c.args.addresses.now) c.args.waiting.now c.loop-one.one-index
          c.loop-one.list.items c.loop-one-test.true (sym c.contains.ensures ∙ w.if-contains.false) c.loop-one.invariant)
    ]

pub returns : goal.returns
returns c =
    subst (λ ws. c.loop-one.list.items ≡ filter (contains nat_cmp c.args.addresses.now) (map task_of ws))
    (take_all c.loop-one.one-index c.args.waiting.now
    (omega (arith, c.loop-one-test.false, c.loop-one.auto.one-index-end))) c.loop-one.invariant
