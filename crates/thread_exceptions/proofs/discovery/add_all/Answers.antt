use Rattle.std.proofs.Common.{arith}
use Rattle.thread_exceptions.proofs.Gathering.{gather_done, gather_next}
use Rattle.thread_exceptions.proofs.discovery.add_all.Goals as goal

pub loop-addr-preserved : goal.loop-addr-preserved
loop-addr-preserved c = (
  c.in_ok-add.ensures.same,
  gather_next c.args.limit _ _ c.args.addrs.now _
      c.loop-addr.addr-index c.loop-addr-test.true c.in_ok-add.ensures.added c.loop-addr.invariant.1,
)

pub returns-clause-added : goal.returns-clause-added
returns-clause-added c = gather_done c.args.limit _ c.args.addrs.now _ c.loop-addr.addr-index
    (omega (arith, c.loop-addr-test.false)) c.loop-addr.invariant.1
