use Rattle.std.proofs.Common.{◌-◌, ap, ◌∙◌, arith}
use Rattle.py_reprs.proofs.Views.{tree-Instance, tree-Items, tree-Pairs}
use Rattle.py_reprs.specs.Trees.{tree_of}
use Rattle.local_values.specs.Nodes.{nodes_of}
use Rattle.local_values.proofs.Counted.{leaf_nodes, left_all, left_behind, left_behind_both, left_more, left_none, nodes_read}
use Rattle.local_values.proofs.nodes.+nodes.Goals as goal

pub left_after-returns-in-Items : goal.left_after-returns-in-Items
unfolding nodes_of
left_after-returns-in-Items t c =
    left_behind c.args.left c.saturating_sub-rest.result c.left_after_all.result (nodes_read c.in-Items.items.items) _
    c.saturating_sub-rest.ensures
    (c.left_after_all.ensures ∙ ap (λ vs. c.saturating_sub-rest.result - nodes_read vs) c.deref.ensures.value)
    (ap nodes_of (ap tree_of c.in-Items.is ∙ tree-Items c.in-Items.form c.in-Items.items c.in-Items.left_out))

pub left_after-returns-in-Pairs : goal.left_after-returns-in-Pairs
unfolding nodes_of
left_after-returns-in-Pairs t c =
    left_behind_both c.args.left c.saturating_sub-rest.result c.left_after_all-behind.result c.left_after_all-in-Pairs.result
    (nodes_read c.in-Pairs.keys.items) (nodes_read c.in-Pairs.values.items) _ c.saturating_sub-rest.ensures
    (c.left_after_all-behind.ensures ∙ ap (λ vs. c.saturating_sub-rest.result - nodes_read vs) c.deref-in-Pairs.ensures.value)
    (c.left_after_all-in-Pairs.ensures ∙ ap (λ vs. c.left_after_all-behind.result - nodes_read vs) c.deref-in-Pairs-2.ensures.value)
    (ap nodes_of (ap tree_of c.in-Pairs.is ∙ tree-Pairs c.in-Pairs.keys c.in-Pairs.values c.in-Pairs.left_out))

pub left_after-returns-in-Instance : goal.left_after-returns-in-Instance
unfolding nodes_of
left_after-returns-in-Instance t c =
    left_behind_both c.args.left c.saturating_sub-rest.result c.left_after_all-behind-in-Instance.result
    c.left_after_all-in-Instance.result
    (nodes_read c.in-Instance.names.items) (nodes_read c.in-Instance.values.items) _ c.saturating_sub-rest.ensures
    (c.left_after_all-behind-in-Instance.ensures ∙ ap (λ vs. c.saturating_sub-rest.result - nodes_read vs)
    c.deref-in-Instance.ensures.value)
    (c.left_after_all-in-Instance.ensures ∙ ap (λ vs. c.left_after_all-behind-in-Instance.result - nodes_read vs)
    c.deref-in-Instance-2.ensures.value)
    (ap nodes_of (ap tree_of c.in-Instance.is ∙ tree-Instance c.in-Instance.class c.in-Instance.addr c.in-Instance.names
    c.in-Instance.values c.in-Instance.left_out))

pub left_after-returns-in_default : goal.left_after-returns-in_default
left_after-returns-in_default t c =
    let one = leaf_nodes c.args.value.now c.in_default.not-Items c.in_default.not-Pairs c.in_default.not-Instance in
    omega (arith, one, c.saturating_sub-rest.ensures)

pub left_after_all-returns : goal.left_after_all-returns
left_after_all-returns t c = left_all _ _ _ _ c.loop-number-test.false c.loop-number.invariant

pub left_after_all-loop-number-init : goal.left_after_all-loop-number-init
left_after_all-loop-number-init t c = left_none c.args.left

pub left_after_all-loop-number-preserved : goal.left_after_all-loop-number-preserved
left_after_all-loop-number-preserved t c =
    left_more _ _ _ _ _ _ _ c.loop-number-test.true c.index-values-number.is c.loop-number.invariant
    c.left_after-rest.ensures
