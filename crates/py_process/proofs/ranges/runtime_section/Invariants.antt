use Rattle.std.proofs.Common.{◌≡◌, drop}
use Rattle.std.specs.List.{find}
use Rattle.py_process.specs.Ranges.{is_runtime}
use Rattle.py_process.proofs.ranges.runtime_section.Given as goal

abbrev pub invariant-loop-section : goal.invariant-loop-section
invariant-loop-section l = find (is_runtime l.elf) l.sections ≡ find (is_runtime l.elf) (drop l.section-index l.sections)
