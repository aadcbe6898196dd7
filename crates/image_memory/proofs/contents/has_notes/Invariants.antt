use Rattle.std.proofs.Common.{◌≡◌, [], filter}
use Rattle.image_memory.specs.Notes.{is_note}
use Rattle.image_memory.proofs.contents.has_notes.Given as goal

abbrev pub invariant-loop-segment : goal.invariant-loop-segment
invariant-loop-segment l = filter is_note l.yielded ≡ []
