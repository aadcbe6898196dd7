use Rattle.std.proofs.Common.{drop}
use Rattle.native_frames.specs.Kept.{AreKept}
use Rattle.native_frames.specs.Naming.{IsNamed}
use Rattle.native_frames.proofs.Names.{SoFar}
use Rattle.native_frames.proofs.naming.named_frames.Given as goal

abbrev pub invariant-loop-frame : goal.invariant-loop-frame
invariant-loop-frame l = record {
  so_far : SoFar (IsNamed l.mappings) l.frames (drop l.frame-index l.frames) l.named.items;
  kept : AreKept l.mappings l.kept;
}
