use Rattle.std.proofs.Common.{◌≡◌, map, take}
use Rattle.std.specs.List.{sum_by}
use Rattle.memory_builder.specs.Mirror.{frame_in}
use Rattle.memory_builder.specs.Sizes.{capped, frame_size}
use Rattle.memory_builder.proofs.sizes.frames_size.Given as goal

-- the frames so far
abbrev pub invariant-loop-frame : goal.invariant-loop-frame
invariant-loop-frame l = l.total ≡ capped (sum_by (frame_size l.layout) (take l.frame-index (map frame_in l.frames)))
