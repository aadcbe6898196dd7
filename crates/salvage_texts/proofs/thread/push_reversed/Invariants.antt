use Rattle.std.proofs.Common.{◌≡◌, ◌++◌, map, string_bytes, reverse}
use Rattle.std.specs.List.{concat}
use Rattle.salvage_texts.specs.Threads.{thread_text}
use Rattle.salvage_texts.proofs.thread.push_reversed.Given as goal

abbrev pub invariant-loop-thread : goal.invariant-loop-thread
invariant-loop-thread l = string_bytes l.text ++ concat
    (map (λ t. thread_text l.values l.lock l.crash l.names t) (reverse l.thread-iterator.iter.rest.now))
    ≡ string_bytes l.initial.text ++ concat (map (λ t. thread_text l.values l.lock l.crash l.names t) (reverse l.threads))
