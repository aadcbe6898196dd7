use Rattle.std.proofs.Common.{sym, subst, arith, ◌∙◌}
use Rattle.std.proofs.lemmas.List.{length-map}
use Rattle.piece_table.specs.Places.{IsKept, addresses_of, range_of_file}
use Rattle.piece_table.proofs.Boundaries.{pieces_few}
use Rattle.piece_table.proofs.OnlyPieces.{pieces_as_many}
use Rattle.piece_table.proofs.Tables.{kept_pieces}
use Rattle.piece_table.proofs.table.PieceTable.len.Goals as goal

pub returns-clause-are : goal.returns-clause-are
returns-clause-are c =
    let kept = subst (λ rs. IsKept rs c.self.inside.pieces c.self.inside.owners.items) c.self.view_is c.self.invariant in
    (c.self.inside.pieces, kept_pieces c.args.self.now c.self.inside.pieces c.self.inside.owners.items kept, c.len.ensures.count)

pub returns-clause-only : goal.returns-clause-only
unfolding returns-clause-are
returns-clause-only c = λ pieces are.
    let own = (returns-clause-are c).1 in
    pieces_as_many (addresses_of c.args.self.now) pieces c.self.inside.pieces are own ∙ sym c.len.ensures.count

pub returns-clause-few : goal.returns-clause-few
unfolding returns-clause-are
returns-clause-few c =
    let few = pieces_few (addresses_of c.args.self.now) c.self.inside.pieces (returns-clause-are c).1 in
    omega (arith, few, c.len.ensures.count, length-map c.args.self.now range_of_file)
