use Rattle.std.proofs.Common.{◌≡◌, ◌++◌, map, take, string_bytes}
use Rattle.std.specs.List.{concat}
use Rattle.exception_texts.specs.Frames.{entry_text}
use Rattle.exception_texts.proofs.frames.push_entries.Given as goal

abbrev pub invariant-loop-entry : goal.invariant-loop-entry
invariant-loop-entry l = string_bytes l.text ≡ string_bytes l.initial.text ++ concat
    (map (λ x. entry_text l.depth x) (take l.entry-index l.entries))
