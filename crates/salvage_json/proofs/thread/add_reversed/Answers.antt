use Rattle.serde_json.specs.View.{view}
use Rattle.salvage_json.specs.Threads.{thread_tree}
use Rattle.salvage_json.proofs.Lists.{last_more}
use Rattle.salvage_json.proofs.thread.add_reversed.Goals as goal

pub loop-thread-preserved : goal.loop-thread-preserved
loop-thread-preserved c =
    last_more view (λ t. thread_tree c.args.kept.now c.args.lock c.args.crash c.args.names.now t) _ c.loop-thread.values.items _ _ _ _ c.in-Some.thread.now
    c.in-Some.ensures.steps c.loop-thread.invariant c.in_ok-push.ensures.items c.in_ok-thread_value.ensures
