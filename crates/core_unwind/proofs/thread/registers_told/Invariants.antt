use Rattle.core_unwind.specs.Told.{told}
use Rattle.core_unwind.proofs.Listing.{Listing}
use Rattle.core_unwind.proofs.thread.registers_told.Given as goal

abbrev pub invariant-loop-register : goal.invariant-loop-register
invariant-loop-register l = Listing (told l.machine l.status) l.registers l.register
