use Rattle.std.proofs.Common.{Some, take}
use Rattle.shown_values.specs.Values.{AreShown}
use Rattle.shown_values.proofs.shown.show_each.Given as goal

abbrev pub invariant-loop-addr : goal.invariant-loop-addr
invariant-loop-addr l = AreShown l.json (Some l.values) (take l.addr-index l.addresses) l.shown
