use Rattle.std.proofs.Common.{◌≡◌, length}
use Rattle.outside.specs.Files.{held_bytes, entries}
use Rattle.outside.proofs.memory_files.find.Given as goal

abbrev pub invariant-loop-rest : goal.invariant-loop-rest
invariant-loop-rest l = held_bytes (entries l.rest) l.name ≡ held_bytes (entries l.files) l.name

abbrev pub decreases-loop-rest : goal.decreases-loop-rest
decreases-loop-rest l = length l.rest
