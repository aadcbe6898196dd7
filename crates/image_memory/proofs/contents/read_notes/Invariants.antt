use Rattle.std.proofs.Common.{filter}
use Rattle.image_memory.specs.Contents.{AreTold}
use Rattle.image_memory.specs.Notes.{is_note}
use Rattle.image_memory.proofs.contents.read_notes.Given as goal

abbrev pub invariant-loop-segment : goal.invariant-loop-segment
invariant-loop-segment l = AreTold l.elf (filter is_note l.yielded) l.told
