use Rattle.std.proofs.Common.{◌≡◌, drop}
use Rattle.thread_exceptions.specs.Discovery.{AreSame, gather}
use Rattle.thread_exceptions.proofs.discovery.add_all.Given as goal

abbrev pub invariant-loop-addr : goal.invariant-loop-addr
invariant-loop-addr l = AreSame l.found.set.keys l.found.addrs.items × (gather l.limit l.found.addrs.items
    (drop l.addr-index l.addrs) ≡ gather l.limit l.initial.found.addrs.items l.addrs)
