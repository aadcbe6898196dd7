use Rattle.std.proofs.Common.{arith}
use Rattle.std.proofs.lemmas.Result.{err_from_is_err_and}
use Rattle.process_memory.specs.Memory.{byte_at}
use Rattle.process_memory.proofs.Reading.{reading_gives, reading_none}
use Rattle.py_fronts.specs.Interpreters.{finds_of, tried_of}
use Rattle.py_fronts.proofs.Steps.{lost_first}
use Rattle.heap_search.specs.Search.{search_of}
use Rattle.heap_search.proofs.SearchSteps.{look_cost, looked_found, looked_new, new_head, no_head}
use Rattle.heap_search.proofs.search.look_at.Goals as goal

pub returns-then-is_found : goal.returns-then-is_found
returns-then-is_found g c =
    let known = rw c.deref.ensures.value at c.is_found.ensures in
    reading_none _ _ _ (λ m. looked_found (g.M.ContainsAddr.contains c.args.maps.now) c.args.layout.now
    c.args.pointers.now c.args.class m (search_of c.args.search.now) c.args.addr _ c.is_found.result known
    c.if-is_found.true c.saturating_add-search.ensures)

pub returns-in_err-taken : goal.returns-in_err-taken
returns-in_err-taken g c =
    let p = err_from_is_err_and c.from_residual.result c.from_residual.ensures.1 in
    let known = rw c.deref.ensures.value at c.is_found.ensures in
    let cost = look_cost (g.M.ContainsAddr.contains c.args.maps.now) c.args.layout.now c.args.pointers.now c.args.class
    (byte_at (g.P.ProcessMemory.seen c.args.process.now).pieces) (search_of c.args.search.now) c.args.addr
    c.is_found.result known c.if-is_found.false in
    rw p.1 (lost_first _ c.in_err-taken.ensures.answer p.2 (omega (arith, cost)))

pub returns-in-None : goal.returns-in-None
returns-in-None g c =
    let known = rw c.deref.ensures.value at c.is_found.ensures in
    let contains = g.M.ContainsAddr.contains c.args.maps.now in
    let s = search_of c.args.search.now in
    let cost = look_cost contains c.args.layout.now c.args.pointers.now c.args.class
    (byte_at (g.P.ProcessMemory.seen c.args.process.now).pieces) s c.args.addr c.is_found.result known
    c.if-is_found.false in
    reading_gives _ _ c.in_ok-taken.ensures.answer (omega (arith, cost))
    (λ m a. looked_new contains c.args.layout.now c.args.pointers.now c.args.class m s c.args.addr _ c.is_found.result
    (tried_of c.in_ok-taken.taken) s.finds known c.if-is_found.false c.saturating_add-search.ensures a
    (no_head s.finds c.args.addr c.in_ok-taken.taken.head c.in-None.is))

pub returns-in_err-take : goal.returns-in_err-take
returns-in_err-take g c =
    let p = err_from_is_err_and c.from_residual-in_err-take.result c.from_residual-in_err-take.ensures.1 in
    let known = rw c.deref.ensures.value at c.is_found.ensures in
    let cost = look_cost (g.M.ContainsAddr.contains c.args.maps.now) c.args.layout.now c.args.pointers.now c.args.class
    (byte_at (g.P.ProcessMemory.seen c.args.process.now).pieces) (search_of c.args.search.now) c.args.addr
    c.is_found.result known c.if-is_found.false in
    rw p.1 (reading_gives _ _ c.in_ok-taken.ensures.answer (omega (arith, cost)) (λ m a. p.2))

pub returns : goal.returns
returns g c =
    let known = rw c.deref.ensures.value at c.is_found.ensures in
    let contains = g.M.ContainsAddr.contains c.args.maps.now in
    let s = search_of c.args.search.now in
    let cost = look_cost contains c.args.layout.now c.args.pointers.now c.args.class
    (byte_at (g.P.ProcessMemory.seen c.args.process.now).pieces) s c.args.addr c.is_found.result known
    c.if-is_found.false in
    reading_gives _ _ c.in_ok-taken.ensures.answer (omega (arith, cost))
    (λ m a. looked_new contains c.args.layout.now c.args.pointers.now c.args.class m s c.args.addr _ c.is_found.result
    (tried_of c.in_ok-taken.taken) (finds_of c.take.new.finds) known c.if-is_found.false c.saturating_add-search.ensures
    a (new_head s.finds (finds_of c.take.new.finds) c.args.addr c.in-Some.head c.in_ok-taken.taken.head c.in-Some.is
    c.in_ok-take.ensures))
