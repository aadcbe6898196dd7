use Rattle.std.proofs.Common.{◌≡◌, ◌++◌, drop, map}
use Rattle.serde_json.specs.View.{view}
use Rattle.thread_registers.specs.Threads.{thread_shown}
use Rattle.thread_registers.specs.Trees.{thread_tree}
use Rattle.thread_registers.proofs.tree.threads_value.Given as goal

abbrev pub invariant-loop-thread : goal.invariant-loop-thread
invariant-loop-thread l =
    map view l.values.items ++ map (λ t. thread_tree t) (map thread_shown (drop l.thread-index l.threads))
    ≡ map (λ t. thread_tree t) (map thread_shown l.threads)
