use Rattle.std.proofs.Common.{◌≡◌, ◌++◌, map, take, string_bytes}
use Rattle.std.specs.List.{concat}
use Rattle.py_tasks.specs.Shown.{entry_shown}
use Rattle.task_texts.specs.Text.{entry_text}
use Rattle.task_texts.proofs.text.push_entries.Given as goal

abbrev pub invariant-loop-entry : goal.invariant-loop-entry
invariant-loop-entry l = string_bytes l.text ≡ string_bytes l.initial.text ++ concat
    (map (λ e. entry_text (entry_shown e)) (take l.entry-index l.entries))
