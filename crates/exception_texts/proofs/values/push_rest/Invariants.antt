use Rattle.std.proofs.Common.{◌≡◌, ◌++◌, map, take, string_bytes}
use Rattle.std.specs.List.{concat}
use Rattle.exception_texts.specs.Values.{next_text}
use Rattle.exception_texts.proofs.values.push_rest.Given as goal

abbrev pub invariant-loop-value : goal.invariant-loop-value
invariant-loop-value l = string_bytes l.text ≡ string_bytes l.initial.text ++ concat
    (map (λ x. next_text l.is_raw x) (take l.value-index l.values))
