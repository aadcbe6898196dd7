use Rattle.std.proofs.Common.{◌≡◌, ◌++◌, map, take, string_bytes}
use Rattle.std.specs.List.{concat}
use Rattle.exception_texts.specs.LastText.{whole_text}
use Rattle.exception_texts.proofs.last_text.push_exceptions.Given as goal

abbrev pub invariant-loop-interpreter : goal.invariant-loop-interpreter
invariant-loop-interpreter l = string_bytes l.text ≡ string_bytes l.initial.text ++ concat
    (map (λ x. whole_text x) (take l.interpreter-index l.exceptions))
