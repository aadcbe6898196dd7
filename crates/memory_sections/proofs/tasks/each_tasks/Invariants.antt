use Rattle.std.proofs.Common.{take}
use Rattle.image_memory.specs.Backed.{regions_of}
use Rattle.process_memory.specs.Memory.{byte_at}
use Rattle.memory_sections.specs.Each.{EachTold}
use Rattle.memory_sections.specs.Told.{AreTasksOf}
use Rattle.memory_sections.proofs.tasks.each_tasks.Given as goal

abbrev pub invariant-loop-interpreter : goal.invariant-loop-interpreter
invariant-loop-interpreter l = EachTold
    (AreTasksOf l.process.layout l.records (byte_at (regions_of l.process.dump)) l.slots)
    (take l.interpreter-index l.interpreters) l.told.items
