use Rattle.thread_names.specs.Keys.{keys_of}
use Rattle.thread_names.proofs.KeySteps.{Keying}
use Rattle.thread_names.proofs.keys.read_below.Given as goal

abbrev pub invariant-loop-number : goal.invariant-loop-number
invariant-loop-number g l = Keying l.layout l.dict.slots (g.P.ProcessMemory.seen l.initial.process)
    (g.P.ProcessMemory.seen l.process) l.number (keys_of l.keys)
