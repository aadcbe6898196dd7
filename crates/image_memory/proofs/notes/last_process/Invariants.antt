use Rattle.std.proofs.Common.{◌≡◌, nat_eq, reverse}
use Rattle.std.specs.Prelude.{find, option_and_then}
use Rattle.elf64_core.specs.Notes.{noted}
use Rattle.image_memory.specs.Notes.{process_kind, process_of}
use Rattle.image_memory.proofs.notes.last_process.Given as goal

abbrev pub invariant-loop-note : goal.invariant-loop-note
invariant-loop-note l = l.last ≡ option_and_then (λ note. process_of (noted note)) (find (λ note. nat_eq note.kind process_kind) (reverse l.yielded))
