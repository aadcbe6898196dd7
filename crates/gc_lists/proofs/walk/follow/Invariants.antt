use Rattle.std.proofs.Common.{◌-◌, length}
use Rattle.gc_lists.specs.Links.{links_at}
use Rattle.gc_lists.specs.Turns.{turn_at}
use Rattle.gc_lists.specs.Walks.{most_members}
use Rattle.gc_lists.proofs.Follows.{Following}
use Rattle.gc_lists.proofs.walk.follow.Given as goal

abbrev pub invariant-members : goal.invariant-members
invariant-members g l = Following (λ m. turn_at (links_at l.mask m) l.heads l.head l.first.back) most_members l.head l.first.next
    (g.P.ProcessMemory.seen l.initial.process) (g.P.ProcessMemory.seen l.process) l.members.items l.before l.at

abbrev pub decreases-members : goal.decreases-members
decreases-members g l = most_members - length l.members.items
