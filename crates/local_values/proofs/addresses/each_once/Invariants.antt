use Rattle.std.specs.BTreeSet.{contains}
use Rattle.std.specs.Ordering.{nat_cmp}
use Rattle.local_values.proofs.Once.{Met}
use Rattle.local_values.proofs.addresses.each_once.Given as goal

abbrev pub invariant-loop-addr : goal.invariant-loop-addr
invariant-loop-addr l = Met l.addresses l.addr-index (λ q. contains nat_cmp l.met q) l.once.items
