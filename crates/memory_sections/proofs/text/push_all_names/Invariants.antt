use Rattle.std.proofs.Common.{◌≡◌, ◌++◌, map, take, string_bytes}
use Rattle.std.specs.List.{concat}
use Rattle.memory_sections.specs.Text.{interpreter_text}
use Rattle.memory_sections.proofs.text.push_all_names.Given as goal

abbrev pub invariant-loop-interpreter : goal.invariant-loop-interpreter
invariant-loop-interpreter l = string_bytes l.text ≡ string_bytes l.initial.text ++ concat
    (map (λ i. interpreter_text i) (take l.interpreter-index l.names))
