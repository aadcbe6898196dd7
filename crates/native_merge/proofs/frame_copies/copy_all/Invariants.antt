use Rattle.std.proofs.Common.{◌≡◌, take}
use Rattle.native_merge.proofs.frame_copies.copy_all.Given as goal

abbrev pub invariant-loop-local : goal.invariant-loop-local
invariant-loop-local l = l.copies.items ≡ take l.local-index l.locals
