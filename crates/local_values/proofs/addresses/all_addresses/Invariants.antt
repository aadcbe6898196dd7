use Rattle.std.proofs.Common.{◌≡◌, take}
use Rattle.std.specs.List.{flat_map}
use Rattle.local_values.specs.Addresses.{in_interpreter}
use Rattle.local_values.proofs.addresses.all_addresses.Given as goal

abbrev pub invariant-loop-interpreter : goal.invariant-loop-interpreter
invariant-loop-interpreter l = l.addresses.items ≡ flat_map in_interpreter (take l.interpreter-index l.interpreters)
