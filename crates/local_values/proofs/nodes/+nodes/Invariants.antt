use Rattle.std.proofs.Common.{◌≡◌, ◌-◌, take}
use Rattle.local_values.proofs.Counted.{nodes_read}
use Rattle.local_values.proofs.nodes.+nodes.Given as goal

abbrev pub invariant-left_after_all-loop-number : goal.invariant-left_after_all-loop-number
invariant-left_after_all-loop-number l = l.rest ≡ l.fn.left - nodes_read (take l.number l.values)
