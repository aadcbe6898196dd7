use Rattle.std.proofs.Common.{sym, ◌∙◌}
use Rattle.std.proofs.lemmas.Result.{err_from_is_err_and}
use Rattle.process_memory.proofs.Reading.{reading_gives, reading_none}
use Rattle.py_stacks.specs.Interpreter.{threads_head}
use Rattle.py_process.specs.Candidates.{candidate_of, passes_in}
use Rattle.py_process.proofs.Tests.{answer_is, cost_inside, head_lost, head_outside, list_lost, outside_maps, tested}
use Rattle.py_builtins.proofs.Consulted.{consulting_short}
use Rattle.py_process.proofs.candidates.is_interpreter_in.Goals as goal

pub returns-then-not-contains_addr : goal.returns-then-not-contains_addr
returns-then-not-contains_addr g c =
    reading_none _ _ _ (λ m. outside_maps (g.M.ContainsAddr.contains c.args.maps.now) c.args.layout.now m c.args.addr (sym c.contains_addr.ensures ∙ c.if-not-contains_addr.true))

pub returns-in_err-head : goal.returns-in_err-head
returns-in_err-head g c =
    let p = err_from_is_err_and c.from_residual.result c.from_residual.ensures.1 in
    let inside = cost_inside (g.M.ContainsAddr.contains c.args.maps.now) c.args.layout.now _ c.args.addr (sym c.contains_addr.ensures ∙ c.if-not-contains_addr.false) in
    rw (p.1, p.2) (reading_gives _ _ c.in_err-head.ensures inside
    (λ m h. list_lost (candidate_of (threads_head c.args.layout.now m c.args.addr)) (passes_in (g.M.ContainsAddr.contains c.args.maps.now) c.args.layout.now m c.args.addr) c.in_err-head.field-0.0 h))

pub returns-in_default : goal.returns-in_default
returns-in_default g c =
    let inside = cost_inside (g.M.ContainsAddr.contains c.args.maps.now) c.args.layout.now _ c.args.addr (sym c.contains_addr.ensures ∙ c.if-not-contains_addr.false) in
    reading_gives _ _ c.in_ok-head.ensures inside (λ m h. head_lost (g.M.ContainsAddr.contains c.args.maps.now) c.args.layout.now m c.args.addr c.in_ok-head.field-0 c.in_default.is h)

pub returns-then-not-contains_addr-2 : goal.returns-then-not-contains_addr-2
returns-then-not-contains_addr-2 g c =
    let inside = cost_inside (g.M.ContainsAddr.contains c.args.maps.now) c.args.layout.now _ c.args.addr (sym c.contains_addr.ensures ∙ c.if-not-contains_addr.false) in
    reading_gives _ _ c.in_ok-head.ensures inside
    (λ m h. head_outside (g.M.ContainsAddr.contains c.args.maps.now) c.args.layout.now m c.args.addr c.in-Some.head c.in_ok-head.field-0 c.in-Some.is (sym c.contains_addr-2.ensures ∙ c.if-not-contains_addr-2.true) h)

pub returns-in-Ok : goal.returns-in-Ok
returns-in-Ok g c =
    tested (g.M.ContainsAddr.contains c.args.maps.now) c.args.layout.now c.args.addr c.in-Some.head c.in_ok-head.field-0 _
    (sym c.contains_addr.ensures ∙ c.if-not-contains_addr.false) (sym c.contains_addr-2.ensures ∙ c.if-not-contains_addr-2.false) c.in-Some.is c.in_ok-head.ensures (consulting_short c.in-Ok.ensures.answer)
    (λ m same a. answer_is c.args.layout.now m c.args.addr c.in-Some.head c.in-Ok.is' (passes_in (g.M.ContainsAddr.contains c.args.maps.now) c.args.layout.now m c.args.addr) a same)

pub returns-in-Err : goal.returns-in-Err
returns-in-Err g c =
    tested (g.M.ContainsAddr.contains c.args.maps.now) c.args.layout.now c.args.addr c.in-Some.head c.in_ok-head.field-0 _
    (sym c.contains_addr.ensures ∙ c.if-not-contains_addr.false) (sym c.contains_addr-2.ensures ∙ c.if-not-contains_addr-2.false) c.in-Some.is c.in_ok-head.ensures (consulting_short c.in-Err.ensures.answer)
    (λ m same a. tt)
