use Rattle.std.proofs.Common.{take}
use Rattle.image_memory.specs.Backed.{regions_of}
use Rattle.process_memory.specs.Memory.{byte_at}
use Rattle.memory_sections.specs.Each.{EachTold}
use Rattle.memory_sections.specs.Waits.{IsWaitOf}
use Rattle.memory_sections.proofs.waits.each_thread.Given as goal

abbrev pub invariant-loop-thread : goal.invariant-loop-thread
invariant-loop-thread l = EachTold
    (IsWaitOf l.standings l.process.layout (byte_at (regions_of l.process.dump)) l.found.places l.found.gil)
    (take l.thread-index l.threads) l.told.items
