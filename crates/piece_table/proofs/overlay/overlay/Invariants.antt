use Rattle.std.proofs.Common.{◌≡◌, ◌≤◌, ◌^◌, ◌-◌, ◌++◌, drop}
use Rattle.piece_table.specs.Laid.{AreBelow, Rises, overlaid}
use Rattle.piece_table.proofs.overlay.overlay.Given as goal

abbrev pub invariant-loop-top : goal.invariant-loop-top
invariant-loop-top l = record {
  made : l.made.items ++ overlaid l.shift l.low (drop l.top-index l.over) l.under ≡ overlaid l.shift 0 l.over l.under;
  below : AreBelow l.low l.next l.under;
  rise : Rises l.low (drop l.top-index l.over);
  ends : l.low ≤ 2 ^ 64 - 1;
}
