use Rattle.std.proofs.Common.{◌≡◌, ◌++◌, map, take, string_bytes}
use Rattle.std.specs.List.{concat}
use Rattle.task_texts.specs.Text.{interpreter_text}
use Rattle.task_texts.proofs.text.push_each.Given as goal

abbrev pub invariant-loop-interpreter : goal.invariant-loop-interpreter
invariant-loop-interpreter l = string_bytes l.text ≡ string_bytes l.initial.text ++ concat
    (map (λ i. interpreter_text l.are_several i) (take l.interpreter-index l.tasks))
