use Rattle.image_memory.specs.Backed.{regions_of}
use Rattle.process_memory.specs.Memory.{byte_at}
use Rattle.process_memory.specs.declared.memory.Span.{Span}
use Rattle.core_slim.specs.Slim.{piece_bytes}
use Rattle.core_slim.proofs.Appending.{none_more, piece_more}
use Rattle.core_slim.proofs.writing.add_pieces.Goals as goal

pub loop-piece-preserved : goal.loop-piece-preserved
loop-piece-preserved c =
    let none : Span = record { start = 0; len = 0 } in
    piece_more (piece_bytes (byte_at (regions_of c.args.dump.now))) _ c.loop-piece.bytes.items
    c.add_piece.new.bytes.items c.args.pieces.now c.loop-piece.piece-index none c.loop-piece-test.true
    c.loop-piece.invariant
    c.in_ok-add_piece.ensures

pub returns : goal.returns
returns c =
    none_more (piece_bytes (byte_at (regions_of c.args.dump.now))) _ c.loop-piece.bytes.items c.args.pieces.now
    c.loop-piece.piece-index c.loop-piece-test.false c.loop-piece.invariant
