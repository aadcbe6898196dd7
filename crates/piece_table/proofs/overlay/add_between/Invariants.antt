use Rattle.std.proofs.Common.{◌≡◌, ◌++◌, drop}
use Rattle.piece_table.specs.Laid.{AreBelow, parts_between}
use Rattle.piece_table.proofs.overlay.add_between.Given as goal

abbrev pub invariant-loop-number : goal.invariant-loop-number
invariant-loop-number l = record {
  made :
      l.made.items ++ parts_between l.gap.low l.gap.high l.gap.shift (drop l.number l.under)
      ≡ l.initial.made.items ++ parts_between l.gap.low l.gap.high l.gap.shift (drop l.fn.next l.under);
  below : AreBelow l.gap.high l.number l.under;
}
