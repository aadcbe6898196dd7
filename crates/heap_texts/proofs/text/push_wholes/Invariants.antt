use Rattle.std.proofs.Common.{◌≡◌, ◌++◌, map, take, string_bytes}
use Rattle.std.specs.List.{concat}
use Rattle.heap_texts.specs.Text.{whole_text}
use Rattle.heap_texts.proofs.text.push_wholes.Given as goal

abbrev pub invariant-loop-class : goal.invariant-loop-class
invariant-loop-class l = string_bytes l.text ≡ string_bytes l.initial.text ++ concat
    (map (λ x. whole_text x) (take l.class-index l.classes))
