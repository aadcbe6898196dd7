use Rattle.std.proofs.Common.{◌≡◌, ◌-◌, ◌/◌, ◌≤◌, length}
use Rattle.native_frames.specs.Vdsos.{base_from, base_of}
use Rattle.native_frames.proofs.vdso.base_in.Given as goal

abbrev pub invariant-loop-number : goal.invariant-loop-number
invariant-loop-number l = record {
  within : l.number ≤ length l.vector / 16;
  same : base_from l.vector l.number (length l.vector / 16 - l.number) ≡ base_of l.vector;
}
