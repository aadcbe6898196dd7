use Rattle.elf64_core.specs.Rest.{sections_left}
use Rattle.elf64_core.proofs.Found.{IsSearched}
use Rattle.elf64_core.proofs.build_id.build_id_among.Given as goal

abbrev pub invariant-loop-section : goal.invariant-loop-section
invariant-loop-section l = IsSearched l.bytes (sections_left l.fn.sections) (sections_left l.section-iterator)
