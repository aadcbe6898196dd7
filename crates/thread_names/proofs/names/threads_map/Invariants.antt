use Rattle.std.proofs.Common.{take}
use Rattle.thread_names.specs.Keys.{HasThreads}
use Rattle.thread_names.proofs.names.threads_map.Given as goal

abbrev pub invariant-loop-keyed : goal.invariant-loop-keyed
invariant-loop-keyed l = HasThreads l.map (take l.keyed-index l.keys)
