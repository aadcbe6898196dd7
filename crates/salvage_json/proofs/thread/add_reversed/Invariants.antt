use Rattle.std.proofs.Common.{◌≡◌, ◌++◌, map, reverse}
use Rattle.serde_json.specs.View.{view}
use Rattle.salvage_json.specs.Threads.{thread_tree}
use Rattle.salvage_json.proofs.thread.add_reversed.Given as goal

abbrev pub invariant-loop-thread : goal.invariant-loop-thread
invariant-loop-thread l = map view l.values.items
    ++ map (λ t. thread_tree l.kept l.lock l.crash l.names t) (reverse l.thread-iterator.iter.rest.now)
    ≡ map view l.initial.values.items ++ map (λ t. thread_tree l.kept l.lock l.crash l.names t) (reverse l.threads)
