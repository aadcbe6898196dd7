use Rattle.std.proofs.Common.{length}
use Rattle.piece_table.proofs.overlay.+lay.Given as goal

abbrev pub decreases-lay : goal.decreases-lay
decreases-lay l = length l.ranges.now
