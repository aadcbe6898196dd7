use Rattle.std.proofs.Common.{◌≡◌, map, take}
use Rattle.memory_sections.specs.Pythons.{python_thread}
use Rattle.memory_sections.proofs.pythons.chain_threads.Given as goal

abbrev pub invariant-loop-thread : goal.invariant-loop-thread
invariant-loop-thread l = l.own.items ≡ map python_thread (take l.thread-index l.threads)
