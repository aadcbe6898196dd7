use Rattle.std.proofs.Common.{◌≡◌, ◌++◌, drop}
use Rattle.std.specs.List.{flat_map}
use Rattle.image_memory.specs.Notes.{note_bytes}
use Rattle.core_slim.specs.Slim.{filled}
use Rattle.core_slim.proofs.writing.filled_notes.Given as goal

abbrev pub invariant-loop-index : goal.invariant-loop-index
invariant-loop-index l =
    l.bytes.items ++ flat_map filled (drop l.index (note_bytes l.core)) ≡ flat_map filled (note_bytes l.core)
