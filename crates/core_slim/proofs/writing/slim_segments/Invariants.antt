use Rattle.std.proofs.Common.{◌≡◌, ◌++◌, drop}
use Rattle.core_slim.specs.Slim.{slim_segments}
use Rattle.core_slim.proofs.writing.slim_segments.Given as goal

abbrev pub invariant-loop-piece : goal.invariant-loop-piece
invariant-loop-piece l =
    l.segments.items ++ slim_segments l.offset l.notes_size (drop l.piece-index l.pieces) ≡ slim_segments l.fn.start
    l.notes_size l.pieces
