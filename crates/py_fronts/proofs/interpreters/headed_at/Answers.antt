use Rattle.std.proofs.Common.{arith, sym, ◌∙◌}
use Rattle.process_memory.proofs.Reading.{reading_gives, reading_none}
use Rattle.py_fronts.proofs.HeadSteps.{inside_headed, outside_headed}
use Rattle.py_fronts.proofs.interpreters.headed_at.Goals as goal

pub returns-then-not-contains_addr : goal.returns-then-not-contains_addr
returns-then-not-contains_addr g c =
    reading_none _ _ _ (λ m. outside_headed (g.M.ContainsAddr.contains c.args.maps.now) c.args.layout.now m c.args.addr (sym c.contains_addr.ensures ∙ c.if-not-contains_addr.true))

pub returns : goal.returns
returns g c =
    reading_gives _ _ c.first_thread.ensures (omega arith)
    (λ m a. inside_headed (g.M.ContainsAddr.contains c.args.maps.now) c.args.layout.now m c.args.addr c.first_thread.result (sym c.contains_addr.ensures ∙ c.if-not-contains_addr.false) a)
