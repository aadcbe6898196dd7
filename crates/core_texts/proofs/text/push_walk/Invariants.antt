use Rattle.std.proofs.Common.{◌≡◌, ◌++◌, false, map, string_bytes, reverse}
use Rattle.std.specs.List.{concat}
use Rattle.core_texts.specs.Text.{trace_text}
use Rattle.core_texts.proofs.text.push_walk.Given as goal

abbrev pub invariant-loop-trace : goal.invariant-loop-trace
invariant-loop-trace l = string_bytes l.text ++ concat (map (λ t. trace_text false t) (reverse l.trace-iterator.iter.rest.now))
    ≡ string_bytes l.initial.text ++ concat (map (λ t. trace_text false t) (reverse l.traces))
