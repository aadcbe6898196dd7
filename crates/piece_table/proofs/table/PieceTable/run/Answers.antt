use Rattle.std.proofs.Common.{arith}
use Rattle.piece_table.proofs.Places.{stretch_joined}
use Rattle.piece_table.proofs.table.PieceTable.run.Goals as goal

pub loop-run-preserved : goal.loop-run-preserved
loop-run-preserved c =
    let run = c.loop-run.run in
    stretch_joined c.args.self.now c.args.addr c.args.len run.file run.start run.size c.goes_on-more.result c.loop-run.invariant
    (c.goes_on-more.ensures.run (omega (arith, c.if-more-eq0.false))) c.loop-run-test.true
