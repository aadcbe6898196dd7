use Rattle.std.proofs.Common.{arith, sym, ◌∙◌}
use Rattle.process_memory.proofs.Reading.{reading_gives, reading_then}
use Rattle.py_fronts.proofs.HeadSteps.{head_unmapped, head_unread, headless, thread_headed}
use Rattle.py_builtins.proofs.Consulted.{consulting_short}
use Rattle.py_fronts.proofs.interpreters.first_thread.Goals as goal

pub returns : goal.returns
returns g c =
    reading_gives _ _ (reading_then _ (consulting_short c.in-Ok.ensures.answer) c.names_it.ensures
    (λ m a b. thread_headed (g.M.ContainsAddr.contains c.args.maps.now) c.args.layout.now m c.args.interpreter c.in-Ok.head c.names_it.result a.is c.if-head-eq0.false (sym c.contains_addr.ensures ∙ c.if-not-contains_addr.false) b)) (omega arith) (λ m h. h)

pub returns-in-Err : goal.returns-in-Err
returns-in-Err g c =
    reading_gives _ _ (consulting_short c.in-Err.ensures.answer) (omega arith)
    (λ m a. head_unread (g.M.ContainsAddr.contains c.args.maps.now) c.args.layout.now m c.args.interpreter c.in-Err.error c.nothing_read.result a c.nothing_read.ensures)

pub returns-then-head-eq0 : goal.returns-then-head-eq0
returns-then-head-eq0 g c =
    reading_gives _ _ (consulting_short c.in-Ok.ensures.answer) (omega arith)
    (λ m a. headless (g.M.ContainsAddr.contains c.args.maps.now) c.args.layout.now m c.args.interpreter c.in-Ok.head a.is c.if-head-eq0.true)

pub returns-then-not-contains_addr : goal.returns-then-not-contains_addr
returns-then-not-contains_addr g c =
    reading_gives _ _ (consulting_short c.in-Ok.ensures.answer) (omega arith)
    (λ m a. head_unmapped (g.M.ContainsAddr.contains c.args.maps.now) c.args.layout.now m c.args.interpreter c.in-Ok.head a.is c.if-head-eq0.false (sym c.contains_addr.ensures ∙ c.if-not-contains_addr.true))
