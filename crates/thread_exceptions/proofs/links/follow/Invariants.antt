use Rattle.std.proofs.Common.{◌-◌, length}
use Rattle.thread_exceptions.specs.Turns.{turn_at}
use Rattle.thread_exceptions.specs.Turns.{Following}
use Rattle.thread_exceptions.proofs.links.follow.Given as goal

abbrev pub invariant-members : goal.invariant-members
invariant-members g l = Following (turn_at l.offset) l.limit l.head (g.P.ProcessMemory.seen l.initial.process)
    (g.P.ProcessMemory.seen l.process) l.members.items l.met.keys l.at

abbrev pub decreases-members : goal.decreases-members
decreases-members g l = l.limit - length l.members.items
