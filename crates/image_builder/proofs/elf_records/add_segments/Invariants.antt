use Rattle.std.proofs.Common.{◌≡◌, ◌++◌, take}
use Rattle.image_builder.specs.CoreFiles.{segment_headers}
use Rattle.image_builder.proofs.elf_records.add_segments.Given as goal

-- the headers so far
abbrev pub invariant-loop-segment : goal.invariant-loop-segment
invariant-loop-segment l = l.out.items ≡ l.fn.out.items ++ segment_headers (take l.segment-index l.segments)
