use Rattle.std.proofs.Common.{◌∙◌, ap, get_or, refl, sym, ◌++◌}
use Rattle.std.specs.Prelude.{option_to_list}
use Rattle.task_edges.specs.Edges.{source_if}
use Rattle.task_edges.proofs.Index.{index_more, no_edge}
use Rattle.task_edges.proofs.edges.index_of.Goals as goal

pub loop-edge-init : goal.loop-edge-init
loop-edge-init c = λ q. rw c.new-index.ensures.empty refl

pub loop-edge-preserved : goal.loop-edge-preserved
loop-edge-preserved c = λ q.
    let edge = get_or c.args.edges.now c.loop-edge.edge-index no_edge in
    c.in_ok-add_edge.ensures q ∙ ap (λ xs. xs ++ option_to_list (source_if q edge)) (c.loop-edge.invariant q)
    ∙ sym (index_more c.args.edges.now c.loop-edge.edge-index q c.loop-edge-test.true)
