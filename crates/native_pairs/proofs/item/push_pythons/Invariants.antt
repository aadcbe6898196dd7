use Rattle.std.proofs.Common.{◌≡◌, ◌≤◌, ◌+◌, ◌++◌, length}
use Rattle.native_pairs.specs.Items.{pythons}
use Rattle.native_pairs.proofs.item.push_pythons.Given as goal

abbrev pub invariant-loop : goal.invariant-loop
invariant-loop l = record {
  adds : l.items.items ≡ l.initial.items.items ++ pythons l.from l.counter;
  next : l.next ≡ l.from + l.counter;
  few : l.next ≤ length l.items.items;
}
