use Rattle.std.proofs.Common.{◌≡◌}
use Rattle.native_pairs.specs.Items.{natives}
use Rattle.native_pairs.proofs.item.native_items.Given as goal

abbrev pub invariant-loop-native : goal.invariant-loop-native
invariant-loop-native l = l.items.items ≡ natives 0 l.native
