use Rattle.std.proofs.Common.{◌≡◌, ◌++◌, map, take, string_bytes}
use Rattle.std.specs.List.{concat}
use Rattle.heap_texts.specs.Text.{interpreter_text}
use Rattle.heap_texts.proofs.text.push_interpreters.Given as goal

abbrev pub invariant-loop-heap : goal.invariant-loop-heap
invariant-loop-heap l = string_bytes l.text ≡ string_bytes l.initial.text ++ concat
    (map (λ x. interpreter_text x) (take l.heap-index l.heaps))
