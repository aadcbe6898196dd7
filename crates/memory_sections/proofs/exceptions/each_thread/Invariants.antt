use Rattle.std.proofs.Common.{take}
use Rattle.image_memory.specs.Backed.{regions_of}
use Rattle.process_memory.specs.Memory.{byte_at}
use Rattle.memory_sections.specs.Each.{EachTold}
use Rattle.memory_sections.specs.Exceptions.{IsThreadTold}
use Rattle.memory_sections.proofs.exceptions.each_thread.Given as goal

abbrev pub invariant-loop-thread : goal.invariant-loop-thread
invariant-loop-thread l = EachTold
    (IsThreadTold l.process.layout l.places (byte_at (regions_of l.process.dump)))
    (take l.thread-index l.threads) l.told.items
