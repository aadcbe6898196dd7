use Rattle.std.proofs.Common.{◌≡◌, length}
use Rattle.outside.specs.Files.{held_bytes, entries}
use Rattle.native_merge.proofs.memory_sources.find.Given as goal

abbrev pub invariant-loop-rest : goal.invariant-loop-rest
invariant-loop-rest l = held_bytes (entries l.rest) l.path ≡ held_bytes (entries l.files) l.path

abbrev pub decreases-loop-rest : goal.decreases-loop-rest
decreases-loop-rest l = length l.rest
