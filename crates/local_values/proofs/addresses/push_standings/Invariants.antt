use Rattle.std.proofs.Common.{◌≡◌, ◌++◌, take}
use Rattle.std.specs.List.{flat_map}
use Rattle.local_values.specs.Addresses.{in_standing}
use Rattle.local_values.proofs.addresses.push_standings.Given as goal

abbrev pub invariant-loop-standing : goal.invariant-loop-standing
invariant-loop-standing l =
    l.addresses.items ≡ l.initial.addresses.items ++ flat_map in_standing (take l.standing-index l.standings)
