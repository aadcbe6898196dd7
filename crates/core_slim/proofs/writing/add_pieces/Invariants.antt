use Rattle.std.proofs.Common.{◌≡◌, ◌++◌, drop}
use Rattle.std.specs.List.{flat_map}
use Rattle.image_memory.specs.Backed.{regions_of}
use Rattle.process_memory.specs.Memory.{byte_at}
use Rattle.core_slim.specs.Slim.{piece_bytes}
use Rattle.core_slim.proofs.writing.add_pieces.Given as goal

abbrev pub invariant-loop-piece : goal.invariant-loop-piece
invariant-loop-piece l =
    let f = piece_bytes (byte_at (regions_of l.dump)) in
    l.bytes.items ++ flat_map f (drop l.piece-index l.pieces) ≡ l.fn.bytes.items ++ flat_map f l.pieces
