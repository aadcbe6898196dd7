use Rattle.std.proofs.Common.{length}
use Rattle.elf64_core.proofs.Found.{Passes}
use Rattle.elf64_core.proofs.build_id.build_id_in.Given as goal

abbrev pub invariant-loop-rest : goal.invariant-loop-rest
invariant-loop-rest l = Passes l.bytes l.rest

abbrev pub decreases-loop-rest : goal.decreases-loop-rest
decreases-loop-rest l = length l.rest
