use Rattle.std.proofs.Common.{arith, ap, drop, get_or, sym, take-append-drop, ◌+◌, ◌++◌, ◌∙◌}
use Rattle.std.proofs.lemmas.List.{take_all, take_more}
use Rattle.std.proofs.lemmas.Result.{err_from_is_err_and}
use Rattle.heap_search.specs.declared.pieces.HeapPiece.{HeapPiece}
use Rattle.heap_search.proofs.SearchSteps.{pieces_done, pieces_init, pieces_lost, pieces_more, pieces_spent}
use Rattle.heap_search.proofs.search.look_in_pieces.Goals as goal

abbrev no_piece : HeapPiece
no_piece = record { at = 0; count = 0 }

pub loop-piece-init : goal.loop-piece-init
loop-piece-init g c = pieces_init (g.M.ContainsAddr.contains c.args.maps.now) c.args.layout.now c.args.pointers.now
    c.args.class c.args.search.now _

pub returns-then-members-ge-MEMBERS : goal.returns-then-members-ge-MEMBERS
returns-then-members-ge-MEMBERS g c =
    let parts = sym (take-append-drop c.loop-piece.piece-index c.args.pieces.now) in
    pieces_spent (g.M.ContainsAddr.contains c.args.maps.now) c.args.layout.now c.args.pointers.now c.args.class _ _
    c.loop-piece.invariant parts (omega arith)

pub returns-in_err-look_in_piece : goal.returns-in_err-look_in_piece
returns-in_err-look_in_piece g c =
    let p = err_from_is_err_and c.from_residual.result c.from_residual.ensures.1 in
    let parts = sym (take-append-drop (c.loop-piece.piece-index + 1) c.args.pieces.now)
    ∙ ap (λ xs. xs ++ drop (c.loop-piece.piece-index + 1) c.args.pieces.now)
    (take_more c.args.pieces.now c.loop-piece.piece-index no_piece c.loop-piece-test.true) in
    rw p.1 (pieces_lost (g.M.ContainsAddr.contains c.args.maps.now) c.args.layout.now c.args.pointers.now c.args.class
    p.0 c.in_err-look_in_piece.field-0.0 (get_or c.args.pieces.now c.loop-piece.piece-index no_piece) _ _
    c.loop-piece.invariant parts c.in_err-look_in_piece.ensures p.2)

pub loop-piece-preserved : goal.loop-piece-preserved
loop-piece-preserved g c =
    rw (take_more c.args.pieces.now c.loop-piece.piece-index no_piece c.loop-piece-test.true)
    (pieces_more (g.M.ContainsAddr.contains c.args.maps.now) c.args.layout.now c.args.pointers.now c.args.class
    c.look_in_piece.new.search (get_or c.args.pieces.now c.loop-piece.piece-index no_piece)
    c.loop-piece.invariant c.in_ok-look_in_piece.ensures)

pub returns : goal.returns
returns g c = pieces_done (g.M.ContainsAddr.contains c.args.maps.now) c.args.layout.now c.args.pointers.now
    c.args.class c.args.pieces.now c.loop-piece.invariant
    (take_all c.loop-piece.piece-index c.args.pieces.now (omega arith))
