use Rattle.std.proofs.Common.{◌≤◌, ◌∙◌, arith, ap, length, refl, sym}
use Rattle.std.proofs.lemmas.Result.{err_from_is_err_and}
use Rattle.std.specs.List.{list_any}
use Rattle.process_memory.proofs.Reading.{reading_gives, reading_then}
use Rattle.thread_exceptions.specs.Groups.{grouped_at, is_group_at}
use Rattle.thread_exceptions.specs.Turns.{turn_at}
use Rattle.thread_exceptions.specs.Links.{Chain}
use Rattle.thread_exceptions.proofs.ChainSizes.{links_few}
use Rattle.thread_exceptions.proofs.Groupings.{searching_done, searching_found, searching_init, searching_lost}
use Rattle.thread_exceptions.proofs.Groupings.{searching_more}
use Rattle.thread_exceptions.proofs.groups.is_group.Goals as goal

pub returns-in_err-lineage : goal.returns-in_err-lineage
returns-in_err-lineage g c =
    let p = err_from_is_err_and c.from_residual.result c.from_residual.ensures.1 in
    rw p.1 (reading_gives _ _ c.in_err-lineage.ensures.answer (omega arith) (λ m h. tt))

pub loop-base-init : goal.loop-base-init
unfolding is_group_at
loop-base-init g c = searching_init (reading_gives _ _ c.in_ok-lineage.ensures.answer (omega arith)
    (λ m h. ap (λ (x : Chain). list_any (grouped_at c.args.places.now m) x.members) (sym h)
    ∙ ap (list_any (grouped_at c.args.places.now m)) (sym c.deref-base-items.ensures.value)))

pub returns-in_err-is : goal.returns-in_err-is
returns-in_err-is g c =
    let p = err_from_is_err_and c.from_residual-in_err-is.result c.from_residual-in_err-is.ensures.1 in
    let few : length c.deref-base-items.result.now ≤ 64 = rw c.deref-base-items.ensures.value
    (links_few
    (turn_at c.args.places.now.base) c.args.class c.in_ok-lineage.lineage c.in_ok-lineage.ensures.answer) in
    rw p.1 (reading_gives _ _ (searching_lost c.loop-base.invariant c.loop-base-test.true c.in_err-is.ensures
    (omega arith)) (omega (arith, few)) (λ m h. tt))

pub returns-then-is : goal.returns-then-is
returns-then-is g c =
    let few : length c.deref-base-items.result.now ≤ 64 = rw c.deref-base-items.ensures.value
    (links_few
    (turn_at c.args.places.now.base) c.args.class c.in_ok-lineage.lineage c.in_ok-lineage.ensures.answer) in
    reading_gives _ _ (searching_found _ c.loop-base.invariant c.loop-base-test.true refl
    (rw c.if-is.true at c.in_ok-is.ensures)) (omega (arith, few)) (λ m h. h)

pub loop-base-preserved : goal.loop-base-preserved
loop-base-preserved g c = searching_more _ c.loop-base.invariant c.loop-base-test.true refl
    (rw c.if-is.false at c.in_ok-is.ensures)

pub returns : goal.returns
returns g c =
    let few : length c.deref-base-items.result.now ≤ 64 = rw c.deref-base-items.ensures.value
    (links_few
    (turn_at c.args.places.now.base) c.args.class c.in_ok-lineage.lineage c.in_ok-lineage.ensures.answer) in
    reading_gives _ _ (searching_done c.loop-base.invariant (omega (arith, c.loop-base-test.false)))
    (omega (arith, few)) (λ m h. h)
