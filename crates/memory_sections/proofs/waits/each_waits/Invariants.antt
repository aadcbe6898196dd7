use Rattle.std.proofs.Common.{take}
use Rattle.image_memory.specs.Backed.{regions_of}
use Rattle.process_memory.specs.Memory.{byte_at}
use Rattle.py_process.specs.Facts.{known_of}
use Rattle.memory_sections.specs.Each.{EachTold}
use Rattle.memory_sections.specs.Waits.{AreWaitsOf}
use Rattle.memory_sections.proofs.waits.each_waits.Given as goal

abbrev pub invariant-loop-interpreter : goal.invariant-loop-interpreter
invariant-loop-interpreter l = EachTold
    (AreWaitsOf (known_of l.process.info) l.process.layout l.records (byte_at (regions_of l.process.dump)) l.standings)
    (take l.interpreter-index l.interpreters) l.told.items
