use Rattle.std.proofs.Common.{Ok, arith, ◌∙◌}
use Rattle.std.proofs.lemmas.Result.{err_from_is_err_and}
use Rattle.process_memory.proofs.Reading.{reading_gives, reading_none}
use Rattle.heap_search.proofs.FoundLaws.{found_right}
use Rattle.heap_search.proofs.SearchSteps.{begins, begun, heap_looked, heap_lost}
use Rattle.heap_search.proofs.search.search_heap.Goals as goal

pub returns-in_err-pieces-clause-answer : goal.returns-in_err-pieces-clause-answer
returns-in_err-pieces-clause-answer g c =
    let p = err_from_is_err_and c.from_residual.result c.from_residual.ensures.1 in
    rw p.1 (reading_none _ _ _ (λ m. p.2))

pub returns-in_err-pieces-clause-right : goal.returns-in_err-pieces-clause-right
returns-in_err-pieces-clause-right g c =
    let p = err_from_is_err_and c.from_residual.result c.from_residual.ensures.1 in
    rw p.1 (reading_none _ _ _ (λ m. tt))

pub returns-in_err-look_in_pieces-clause-answer : goal.returns-in_err-look_in_pieces-clause-answer
returns-in_err-look_in_pieces-clause-answer g c =
    let p = err_from_is_err_and c.from_residual-in_err-look_in_pieces.result
    c.from_residual-in_err-look_in_pieces.ensures.1 in
    rw p.1 (heap_lost (g.M.ContainsAddr.contains c.args.maps.now) c.args.layout.now c.args.pointers.now c.args.class
    c.args.segments.now c.in_ok-pieces.pieces.items c.deref.result.now (begun c.new.result.items)
    (begins c.new.result.items c.new.ensures.items) c.in_ok-pieces.ensures.answer c.deref.ensures.value _
    c.in_err-look_in_pieces.field-0.0 c.in_err-look_in_pieces.ensures (λ m h. p.2 ∙ h))

pub returns-in_err-look_in_pieces-clause-right : goal.returns-in_err-look_in_pieces-clause-right
returns-in_err-look_in_pieces-clause-right g c =
    let p = err_from_is_err_and c.from_residual-in_err-look_in_pieces.result
    c.from_residual-in_err-look_in_pieces.ensures.1 in
    rw p.1 (heap_lost (g.M.ContainsAddr.contains c.args.maps.now) c.args.layout.now c.args.pointers.now c.args.class
    c.args.segments.now c.in_ok-pieces.pieces.items c.deref.result.now (begun c.new.result.items)
    (begins c.new.result.items c.new.ensures.items) c.in_ok-pieces.ensures.answer c.deref.ensures.value _
    c.in_err-look_in_pieces.field-0.0 c.in_err-look_in_pieces.ensures (λ m h. tt))

pub returns-clause-answer : goal.returns-clause-answer
returns-clause-answer g c =
    heap_looked (g.M.ContainsAddr.contains c.args.maps.now) c.args.layout.now c.args.pointers.now c.args.class
    c.args.segments.now c.in_ok-pieces.pieces.items c.deref.result.now (begun c.new.result.items)
    (begins c.new.result.items c.new.ensures.items) c.in_ok-pieces.ensures.answer c.deref.ensures.value
    c.look_in_pieces.new.search c.in_ok-look_in_pieces.ensures

pub returns-clause-right : goal.returns-clause-right
returns-clause-right g c =
    reading_gives _ _
    (heap_looked (g.M.ContainsAddr.contains c.args.maps.now) c.args.layout.now c.args.pointers.now c.args.class
    c.args.segments.now c.in_ok-pieces.pieces.items c.deref.result.now (begun c.new.result.items)
    (begins c.new.result.items c.new.ensures.items) c.in_ok-pieces.ensures.answer c.deref.ensures.value
    c.look_in_pieces.new.search c.in_ok-look_in_pieces.ensures) (omega arith)
    (λ m h. found_right (g.M.ContainsAddr.contains c.args.maps.now) c.args.layout.now m c.args.pointers.now
    c.args.class c.args.segments.now (Ok c.look_in_pieces.new.search) h)
