use Rattle.std.proofs.Common.{◌≡◌, map, take}
use Rattle.memory_sections.specs.Told.{id_of}
use Rattle.memory_sections.proofs.names.ids_of.Given as goal

abbrev pub invariant-loop-thread : goal.invariant-loop-thread
invariant-loop-thread l = l.ids.items ≡ map id_of (take l.thread-index l.threads)
