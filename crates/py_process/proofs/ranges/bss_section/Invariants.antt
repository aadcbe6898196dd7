use Rattle.std.proofs.Common.{take}
use Rattle.py_process.specs.Ranges.{BssIs}
use Rattle.py_process.proofs.ranges.bss_section.Given as goal

abbrev pub invariant-loop-section : goal.invariant-loop-section
invariant-loop-section l = BssIs l.elf (take l.section-index l.sections) l.bss
