use Rattle.std.proofs.Common.{◌≡◌, ◌++◌, map, take, string_bytes}
use Rattle.std.specs.List.{concat}
use Rattle.exception_texts.specs.Frames.{note_line}
use Rattle.exception_texts.proofs.frames.push_each_note.Given as goal

abbrev pub invariant-loop-note : goal.invariant-loop-note
invariant-loop-note l = string_bytes l.text ≡ string_bytes l.initial.text ++ concat
    (map (λ x. note_line l.depth x) (take l.note-index l.notes))
