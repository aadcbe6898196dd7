use Rattle.std.proofs.Common.{◌≡◌, ◌+◌, ◌<◌, ◌^◌, ◌++◌, length, map}
use Rattle.std.specs.List.{AllByRecursion, sum_by}
use Rattle.py_stacks.specs.Lines.{family_of}
use Rattle.memory_builder.specs.Chains.{laid_chain}
use Rattle.memory_builder.specs.Frames.{laid_frame}
use Rattle.memory_builder.specs.Mirror.{frame_in}
use Rattle.memory_builder.specs.Sizes.{frame_size}
use Rattle.memory_builder.specs.Validity.{IsValidFrame}
use Rattle.memory_builder.proofs.threads.add_frames.Given as goal

-- what is added, and the frames that are left, are the whole
abbrev pub invariant-loop-frame : goal.invariant-loop-frame
invariant-loop-frame l = record {
  valid : AllByRecursion (IsValidFrame (family_of l.layout.lines)) (map frame_in l.rest);
  whole : l.out.items ++ laid_chain (frame_size l.layout) (laid_frame l.layout l.types) l.here (map frame_in l.rest)
      ≡ l.fn.out.items ++ laid_chain (frame_size l.layout) (laid_frame l.layout l.types) l.at (map frame_in l.frames);
  fits : l.here + sum_by (frame_size l.layout) (map frame_in l.rest) < 2 ^ 63;
}

abbrev pub decreases-loop-frame : goal.decreases-loop-frame
decreases-loop-frame l = length l.rest
