use Rattle.std.proofs.Common.{◌≡◌, ◌++◌, map, take, string_bytes}
use Rattle.std.specs.List.{concat}
use Rattle.py_waits.specs.Text.{thread_text}
use Rattle.py_waits.proofs.text.push_threads.Given as goal

abbrev pub invariant-loop-thread : goal.invariant-loop-thread
invariant-loop-thread l = string_bytes l.text ≡ string_bytes l.initial.text ++ concat
    (map (λ t. thread_text t) (take l.thread-index l.threads))
