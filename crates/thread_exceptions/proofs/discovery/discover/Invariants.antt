use Rattle.std.proofs.Common.{◌-◌, length, map}
use Rattle.thread_exceptions.specs.Discovery.{AreSame, met_of}
use Rattle.thread_exceptions.specs.Exceptions.{what_at}
use Rattle.thread_exceptions.proofs.Discoveries.{Discovering}
use Rattle.thread_exceptions.proofs.discovery.discover.Given as goal

abbrev pub invariant-all : goal.invariant-all
invariant-all g l = AreSame l.found.set.keys l.found.addrs.items × Discovering
    (λ m. what_at l.places m) l.limit l.roots (g.P.ProcessMemory.seen l.initial.process)
    (g.P.ProcessMemory.seen l.process) l.found.addrs.items (map (λ x. met_of x) l.all.items)

abbrev pub decreases-all : goal.decreases-all
decreases-all g l = l.limit - length l.all.items
