use Rattle.std.proofs.Common.{◌≡◌, drop}
use Rattle.native_frames.specs.Text.{base_from, base_name}
use Rattle.native_frames.proofs.text.base_name.Given as goal

abbrev pub invariant-loop-index : goal.invariant-loop-index
invariant-loop-index l = base_from l.base (drop l.index l.path) ≡ base_name l.path
