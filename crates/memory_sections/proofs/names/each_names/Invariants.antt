use Rattle.std.proofs.Common.{take}
use Rattle.image_memory.specs.Backed.{regions_of}
use Rattle.process_memory.specs.Memory.{byte_at}
use Rattle.memory_sections.specs.Each.{EachTold}
use Rattle.memory_sections.specs.Told.{AreNamesOf}
use Rattle.memory_sections.proofs.names.each_names.Given as goal

abbrev pub invariant-loop-interpreter : goal.invariant-loop-interpreter
invariant-loop-interpreter l = EachTold (AreNamesOf l.process.layout l.rule (byte_at (regions_of l.process.dump)))
    (take l.interpreter-index l.interpreters) l.names.items
