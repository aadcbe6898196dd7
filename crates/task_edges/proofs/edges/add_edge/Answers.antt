use Rattle.task_edges.proofs.Index.{added}
use Rattle.task_edges.proofs.edges.add_edge.Goals as goal

pub returns : goal.returns
returns c =
    added c.args.index.now c.take_sources-sources.new.index c.insert.new.self c.args.edge c.take_sources-sources.result
    c.push.new.self c.take_sources-sources.ensures.taken c.take_sources-sources.ensures.left c.in_ok-push.ensures.items
    c.in_ok-insert.ensures.updates
