use Rattle.std.proofs.Common.{◌≡◌, ◌≤◌}
use Rattle.native_pairs.specs.Pairs.{IsPaired, lies_by, runs_all}
use Rattle.native_pairs.proofs.address.pairs_of.Given as goal

abbrev pub invariant-loop-part : goal.invariant-loop-part
invariant-loop-part l = record {
  paired : IsPaired (lies_by l.parts l.borders) l.part-index l.takes.items;
  next : l.next ≡ runs_all l.takes.items;
  few : l.next ≤ l.part-index;
}
