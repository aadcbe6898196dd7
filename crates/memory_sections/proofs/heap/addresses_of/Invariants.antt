use Rattle.std.proofs.Common.{◌≡◌, map, take}
use Rattle.memory_sections.specs.Heap.{address_of}
use Rattle.memory_sections.proofs.heap.addresses_of.Given as goal

abbrev pub invariant-loop-interpreter : goal.invariant-loop-interpreter
invariant-loop-interpreter l = l.addresses.items ≡ map address_of (take l.interpreter-index l.interpreters)
