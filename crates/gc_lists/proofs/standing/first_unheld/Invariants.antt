use Rattle.std.proofs.Common.{◌≡◌, ◌*◌, drop}
use Rattle.process_memory.specs.Seen.{Reading}
use Rattle.gc_lists.specs.Heads.{first_unheld}
use Rattle.gc_lists.specs.Links.{links_at}
use Rattle.gc_lists.proofs.standing.first_unheld.Given as goal

abbrev pub invariant-loop-head : goal.invariant-loop-head
invariant-loop-head g l = Reading (3 * l.head-index) (g.P.ProcessMemory.seen l.initial.process) (g.P.ProcessMemory.seen l.process)
    (λ m. first_unheld (links_at l.mask m) l.heads ≡ first_unheld (links_at l.mask m) (drop l.head-index l.heads))
