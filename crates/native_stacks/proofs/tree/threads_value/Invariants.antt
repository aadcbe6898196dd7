use Rattle.std.proofs.Common.{◌≡◌, ◌++◌, drop, map}
use Rattle.serde_json.specs.View.{view}
use Rattle.native_stacks.specs.Threads.{thread_shown}
use Rattle.native_stacks.specs.Trees.{thread_tree}
use Rattle.native_stacks.proofs.tree.threads_value.Given as goal

abbrev pub invariant-loop-thread : goal.invariant-loop-thread
invariant-loop-thread l =
    map view l.values.items
    ++ map (λ t. thread_tree l.files l.limit t) (map thread_shown (drop l.thread-index l.threads))
    ≡ map (λ t. thread_tree l.files l.limit t) (map thread_shown l.threads)
