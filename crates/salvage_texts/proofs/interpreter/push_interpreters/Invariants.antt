use Rattle.std.proofs.Common.{◌≡◌, ◌++◌, map, take, string_bytes}
use Rattle.std.specs.List.{concat}
use Rattle.salvage_texts.specs.Salvaged.{interpreter_text}
use Rattle.salvage_texts.proofs.interpreter.push_interpreters.Given as goal

abbrev pub invariant-loop-interpreter : goal.invariant-loop-interpreter
invariant-loop-interpreter l = string_bytes l.text ≡ string_bytes l.initial.text ++ concat
    (map (λ x. interpreter_text l.values l.is_several l.crash l.names x) (take l.interpreter-index l.interpreters))
