use Rattle.std.proofs.Common.{take}
use Rattle.image_memory.specs.Backed.{regions_of}
use Rattle.process_memory.specs.Memory.{byte_at}
use Rattle.memory_sections.specs.Each.{EachTold}
use Rattle.memory_sections.specs.Heap.{IsHeapOf}
use Rattle.memory_sections.proofs.heap.each_heap.Given as goal

abbrev pub invariant-loop-interpreter : goal.invariant-loop-interpreter
invariant-loop-interpreter l = EachTold
    (IsHeapOf l.process.layout l.places l.bases (byte_at (regions_of l.process.dump)))
    (take l.interpreter-index l.interpreters) l.told.items
