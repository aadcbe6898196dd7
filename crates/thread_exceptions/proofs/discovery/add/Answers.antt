use Rattle.std.proofs.Common.{arith, sym, ◌∙◌}
use Rattle.thread_exceptions.proofs.Gathering.{one_full, one_met, one_new, one_zero, same_more}
use Rattle.thread_exceptions.proofs.Holding.{known_in, known_out}
use Rattle.thread_exceptions.proofs.Sorted.{set_added}
use Rattle.thread_exceptions.proofs.discovery.add.Goals as goal

pub returns-then-addr-eq0-clause-added : goal.returns-then-addr-eq0-clause-added
returns-then-addr-eq0-clause-added c = one_zero c.args.limit _ c.args.addr c.if-addr-eq0.true

pub returns-then-len-limit-clause-added : goal.returns-then-len-limit-clause-added
returns-then-len-limit-clause-added c = one_full c.args.limit _ c.args.addr c.if-addr-eq0.false
    (omega (arith, c.args.found.now.addrs.ok.0))

pub returns-then-contains-clause-added : goal.returns-then-contains-clause-added
returns-then-contains-clause-added c = one_met c.args.limit _ c.args.addr c.if-addr-eq0.false
    (omega (arith, c.args.found.now.addrs.ok.0))
    (known_in c.args.found.now.set c.args.found.now.addrs.items c.args.addr c.requires.same (sym c.contains.ensures
    ∙ c.if-contains.true))

pub returns-clause-same : goal.returns-clause-same
returns-clause-same c = same_more c.args.found.now.set.keys c.insert.new.self.keys c.args.found.now.addrs.items _
    c.args.addr c.requires.same
    (set_added c.args.found.now.set c.insert.new.self c.args.addr c.in_ok-insert.ensures.updates)
    c.in_ok-push.ensures.items

pub returns-clause-added : goal.returns-clause-added
returns-clause-added c = c.in_ok-push.ensures.items
    ∙ one_new c.args.limit _ c.args.addr c.if-addr-eq0.false (omega (arith, c.args.found.now.addrs.ok.0))
    (known_out c.args.found.now.set c.args.found.now.addrs.items c.args.addr c.requires.same (sym c.contains.ensures
    ∙ c.if-contains.false))
