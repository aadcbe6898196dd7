use Rattle.std.proofs.Common.{take}
use Rattle.image_memory.specs.Backed.{regions_of}
use Rattle.process_memory.specs.Memory.{byte_at}
use Rattle.memory_sections.specs.Each.{EachTold}
use Rattle.memory_sections.specs.Exceptions.{AreExceptionsBy}
use Rattle.memory_sections.proofs.exceptions.each_exceptions.Given as goal

abbrev pub invariant-loop-interpreter : goal.invariant-loop-interpreter
invariant-loop-interpreter l = EachTold
    (AreExceptionsBy l.process.layout l.places (byte_at (regions_of l.process.dump)))
    (take l.interpreter-index l.interpreters) l.told.items
