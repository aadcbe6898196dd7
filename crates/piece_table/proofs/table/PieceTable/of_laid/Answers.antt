use Rattle.std.proofs.Common.{arith}
use Rattle.std.proofs.lemmas.List.{length-map}
use Rattle.piece_table.specs.Places.{addresses_of, range_of_file}
use Rattle.piece_table.proofs.Boundaries.{AreSpans-laid}
use Rattle.piece_table.proofs.Tables.{IsKept-of, addresses_fit}
use Rattle.piece_table.proofs.table.PieceTable.of_laid.Goals as goal

pub table_of_laid-requires : goal.table_of_laid-requires
table_of_laid-requires c = λ few.
    let ranges = c.args.ranges.items in
    let count = length-map ranges range_of_file in
    AreSpans-laid (addresses_of ranges) c.args.laid.now (addresses_fit ranges c.requires.fit) (omega (arith, count)) few c.requires.laid

pub invariant_of-result : goal.invariant_of-result
invariant_of-result c =
    IsKept-of c.args.ranges.items c.args.laid.now c.in_ok-pieces.pieces c.in_ok-owners.owners.items c.requires.fit c.requires.laid
    c.in_ok-pieces.ensures c.in_ok-owners.ensures
