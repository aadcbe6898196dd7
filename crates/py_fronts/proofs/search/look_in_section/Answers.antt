use Rattle.std.proofs.Common.{arith}
use Rattle.std.proofs.lemmas.Result.{err_from_is_err_and}
use Rattle.py_fronts.proofs.SearchSteps.{words_done, words_init, words_lost, words_more, words_spent}
use Rattle.py_fronts.proofs.search.look_in_section.Goals as goal

pub loop-done-init : goal.loop-done-init
loop-done-init g c = words_init (g.M.ContainsAddr.contains c.args.maps.now) c.args.layout.now c.args.search.now c.args.addr _ _

pub loop-done-preserved : goal.loop-done-preserved
loop-done-preserved g c = words_more c.look_in_piece.new.search c.min-piece.result c.loop-done.invariant (omega arith) c.in_ok-look_in_piece.ensures

pub returns-then-members-ge-SEARCH_LIMIT : goal.returns-then-members-ge-SEARCH_LIMIT
returns-then-members-ge-SEARCH_LIMIT g c = rw (← c.min-count.ensures) (words_spent c.loop-done.invariant (omega arith))

pub returns-in_err-look_in_piece : goal.returns-in_err-look_in_piece
returns-in_err-look_in_piece g c =
    let p = err_from_is_err_and c.from_residual.result c.from_residual.ensures.1 in
    rw (p.1, ← c.min-count.ensures) (words_lost p.0 c.in_err-look_in_piece.field-0.0 c.min-piece.result c.loop-done.invariant
    (omega arith) c.in_err-look_in_piece.ensures p.2)

pub returns : goal.returns
returns g c = rw (← c.min-count.ensures) (words_done c.loop-done.invariant (omega arith))
