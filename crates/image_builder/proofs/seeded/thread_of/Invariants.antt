use Rattle.std.proofs.Common.{◌≡◌, map}
use Rattle.image_builder.specs.Generated.{each, frame_of}
use Rattle.memory_builder.specs.Mirror.{frame_in}
use Rattle.image_builder.proofs.seeded.thread_of.Given as goal

-- the frames so far
abbrev pub invariant-loop-frame : goal.invariant-loop-frame
invariant-loop-frame l = map frame_in l.frames.items ≡ each (frame_of l.seed l.thread) l.frame
