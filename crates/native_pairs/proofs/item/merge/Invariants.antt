use Rattle.std.proofs.Common.{◌≡◌, ◌≤◌, ◌++◌, length, drop}
use Rattle.native_pairs.specs.Items.{merged_from, merged_items}
use Rattle.native_pairs.proofs.item.merge.Given as goal

abbrev pub invariant-loop-native : goal.invariant-loop-native
invariant-loop-native l = record {
  merged : merged_items l.takes l.runs ≡ l.items.items ++ merged_from (drop l.native l.takes) l.left l.native l.python;
  few : l.python ≤ length l.items.items;
}
