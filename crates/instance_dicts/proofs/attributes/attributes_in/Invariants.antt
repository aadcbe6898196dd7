use Rattle.instance_dicts.proofs.Attributing.{Attributing}
use Rattle.instance_dicts.proofs.attributes.attributes_in.Given as goal

abbrev pub invariant-loop-number : goal.invariant-loop-number
invariant-loop-number g l =
    Attributing l.layout l.dict.slots (g.P.ProcessMemory.seen l.initial.process)
    (g.P.ProcessMemory.seen l.process) l.count
    l.number l.attributes.items
