use Rattle.std.proofs.Common.{◌≡◌, map, take}
use Rattle.serde_json.specs.View.{view}
use Rattle.exception_texts.specs.Trees.{thread_tree}
use Rattle.exception_texts.proofs.thread_tree.threads_value.Given as goal

abbrev pub invariant-loop-thread : goal.invariant-loop-thread
invariant-loop-thread l = map view l.own.items ≡ map (λ x. thread_tree x) (take l.thread-index l.threads)
