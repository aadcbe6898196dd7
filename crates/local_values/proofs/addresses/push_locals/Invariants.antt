use Rattle.std.proofs.Common.{◌≡◌, ◌++◌, map, take}
use Rattle.local_values.specs.Addresses.{address_of}
use Rattle.local_values.proofs.addresses.push_locals.Given as goal

abbrev pub invariant-loop-local : goal.invariant-loop-local
invariant-loop-local l =
    l.addresses.items ≡ l.initial.addresses.items ++ map address_of (take l.local-index l.local-items)
