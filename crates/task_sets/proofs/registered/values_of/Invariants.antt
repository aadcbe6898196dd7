use Rattle.std.proofs.Common.{◌≡◌, map, take}
use Rattle.task_sets.specs.Registered.{value_of}
use Rattle.task_sets.proofs.registered.values_of.Given as goal

abbrev pub invariant-loop-attribute : goal.invariant-loop-attribute
invariant-loop-attribute l = l.values.items ≡ map value_of (take l.attribute-index l.attributes)
