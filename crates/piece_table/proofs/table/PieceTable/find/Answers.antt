use Rattle.std.proofs.Common.{◌<◌, get_or, length, subst, arith, ap, ◌∙◌}
use Rattle.std.proofs.lemmas.List.{get_or_read, length-map}
use Rattle.std.proofs.lemmas.Option.{slice_get_within}
use Rattle.piece_table.specs.Places.{IsFilePiece, IsKept, range_of_file}
use Rattle.piece_table.proofs.Places.{stands_none}
use Rattle.piece_table.proofs.Tables.{hit_owner, hit_piece, kept_pieces}
use Rattle.piece_table.proofs.table.PieceTable.find.Goals as goal

pub returns-in_err-hit-clause-none : goal.returns-in_err-hit-clause-none
returns-in_err-hit-clause-none g c = λ _.
    let kept = subst (λ rs. IsKept rs c.self.inside.pieces c.self.inside.owners.items) c.self.view_is c.self.invariant in
    stands_none c.args.self.now c.self.inside.pieces c.args.addr (kept_pieces c.args.self.now c.self.inside.pieces c.self.inside.owners.items kept)
    (c.lookup.ensures.none c.in_err-hit.was)

pub returns-in_err-hit-clause-steps : goal.returns-in_err-hit-clause-steps
returns-in_err-hit-clause-steps g c =
    let kept = subst (λ rs. IsKept rs c.self.inside.pieces c.self.inside.owners.items) c.self.view_is c.self.invariant in
    (c.self.inside.pieces, kept_pieces c.args.self.now c.self.inside.pieces c.self.inside.owners.items kept, c.lookup.ensures.steps)

pub index-owner-requires : goal.index-owner-requires
index-owner-requires g c =
    let less = slice_get_within c.self.inside.pieces c.in_ok-hit.hit.number c.in_ok-hit.hit.entry c.in_ok-hit.ensures.hit.is in
    omega (arith, c.self.invariant.counted, c.self.inside.owners.ok.0)

pub index-requires : goal.index-requires
index-requires g c =
    let hit = c.in_ok-hit.hit in
    let owners = c.self.inside.owners.items in
    let ranges = c.self.inside.ranges.items in
    let less : hit.number < length owners =
    omega (arith, c.self.invariant.counted, slice_get_within c.self.inside.pieces hit.number hit.entry c.in_ok-hit.ensures.hit.is) in
    let owner = get_or_read owners hit.number c.index-owner.result.now less c.index-owner.ensures 0 in
    let is = hit_owner ranges c.self.inside.pieces owners c.args.addr hit.number hit.entry c.self.invariant c.in_ok-hit.ensures.hit in
    omega (arith, owner, is.owned, length-map ranges range_of_file, c.self.inside.ranges.ok.0)

pub returns-clause-piece : goal.returns-clause-piece
returns-clause-piece g c =
    let hit = c.in_ok-hit.hit in
    let owners = c.self.inside.owners.items in
    let ranges = c.self.inside.ranges.items in
    let less : hit.number < length owners =
    omega (arith, c.self.invariant.counted, slice_get_within c.self.inside.pieces hit.number hit.entry c.in_ok-hit.ensures.hit.is) in
    let owner = get_or_read owners hit.number c.index-owner.result.now less c.index-owner.ensures 0 in
    let is = hit_owner ranges c.self.inside.pieces owners c.args.addr hit.number hit.entry c.self.invariant c.in_ok-hit.ensures.hit in
    let inside : c.index-owner.result.now < length ranges = omega (arith, owner, is.owned, length-map ranges range_of_file) in
    subst (λ rs. IsFilePiece rs (record { range = hit.entry; file = c.index.result.now.file })) c.self.view_is
    (hit_piece ranges c.self.inside.pieces owners c.args.addr hit.number hit.entry c.index.result.now.file c.self.invariant c.in_ok-hit.ensures.hit
    (λ d. ap (λ f. f.file) (get_or_read ranges c.index-owner.result.now c.index.result.now inside c.index.ensures d)
    ∙ ap (λ k. (get_or ranges k d).file) owner))

pub returns-clause-steps : goal.returns-clause-steps
returns-clause-steps g c =
    let kept = subst (λ rs. IsKept rs c.self.inside.pieces c.self.inside.owners.items) c.self.view_is c.self.invariant in
    (c.self.inside.pieces, kept_pieces c.args.self.now c.self.inside.pieces c.self.inside.owners.items kept, c.lookup.ensures.steps)
