use Rattle.piece_table.proofs.Places.{piece_stretch}
use Rattle.piece_table.proofs.table.PieceTable.stretch.Goals as goal

pub returns-clause-run : goal.returns-clause-run
returns-clause-run c =
    let e = c.in_ok-piece.ensures in
    piece_stretch c.args.self.now c.in_ok-piece.piece c.args.addr c.args.most c.min.result e.piece e.holds c.requires c.min.ensures
