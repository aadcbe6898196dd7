use Rattle.std.proofs.Common.{◌≡◌, take}
use Rattle.native_merge.proofs.copies.copy_natives.Given as goal

abbrev pub invariant-loop-native : goal.invariant-loop-native
invariant-loop-native l = l.copies.items ≡ take l.native-index l.natives
