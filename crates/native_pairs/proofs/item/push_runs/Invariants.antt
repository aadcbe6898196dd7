use Rattle.std.proofs.Common.{◌≡◌, ◌≤◌, ◌+◌, ◌++◌, length, take}
use Rattle.std.specs.List.{sum}
use Rattle.native_pairs.specs.Items.{pythons}
use Rattle.native_pairs.proofs.item.push_runs.Given as goal

abbrev pub invariant-loop-size : goal.invariant-loop-size
invariant-loop-size l = record {
  adds : l.items.items ≡ l.initial.items.items ++ pythons l.from (sum (take l.size-index l.runs));
  next : l.next ≡ l.from + sum (take l.size-index l.runs);
  few : l.next ≤ length l.items.items;
}
