use Rattle.std.proofs.lemmas.Result.{err_from_is_err_and}
use Rattle.py_fronts.specs.Interpreters.{search_of}
use Rattle.py_fronts.proofs.SearchSteps.{piece_looked, piece_lost}
use Rattle.py_fronts.proofs.search.look_in_piece.Goals as goal

pub returns-in_err-words : goal.returns-in_err-words
returns-in_err-words g c =
    let p = err_from_is_err_and c.from_residual.result c.from_residual.ensures.1 in
    rw p.1 (piece_lost (g.M.ContainsAddr.contains c.args.maps.now) c.args.layout.now (search_of c.args.search.now) c.args.at c.args.count p.0 c.in_err-words.field-0.0 c.requires.some c.in_err-words.ensures p.2)

pub returns : goal.returns
returns g c = piece_looked (g.M.ContainsAddr.contains c.args.maps.now) c.args.layout.now c.args.search.now c.look_at_all.new.search c.args.at c.args.count c.in_ok-words.words.items
    c.deref.result.now c.look_at_all.result c.requires.some c.in_ok-words.ensures c.deref.ensures.value c.look_at_all.ensures
