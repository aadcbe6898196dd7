use Rattle.std.proofs.lemmas.Result.{err_from_is_err_and}
use Rattle.heap_search.specs.Search.{search_of}
use Rattle.heap_search.proofs.SearchSteps.{piece_looked, piece_lost}
use Rattle.heap_search.proofs.search.look_in_piece.Goals as goal

pub returns-in_err-words : goal.returns-in_err-words
returns-in_err-words g c =
    let p = err_from_is_err_and c.from_residual.result c.from_residual.ensures.1 in
    rw p.1 (piece_lost (g.M.ContainsAddr.contains c.args.maps.now) c.args.layout.now c.args.pointers.now c.args.class
    (search_of c.args.search.now) c.args.piece p.0 c.in_err-words.field-0.0 c.requires.piece.some c.in_err-words.ensures
    p.2)

pub returns : goal.returns
returns g c = piece_looked (g.M.ContainsAddr.contains c.args.maps.now) c.args.layout.now c.args.pointers.now
    c.args.class c.args.search.now c.look_at_all.new.search c.args.piece c.in_ok-words.words.items
    c.deref.result.now c.look_at_all.result c.requires.piece.some c.in_ok-words.ensures c.deref.ensures.value
    c.look_at_all.ensures
