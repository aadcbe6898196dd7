use Rattle.std.proofs.Common.{ap, ◌∙◌, arith, length}
use Rattle.image_memory.specs.Backed.{regions_of}
use Rattle.process_memory.specs.Memory.{byte_at}
use Rattle.core_slim.proofs.Pieces.{length-slim_segments, slim_made}
use Rattle.core_slim.proofs.slimming.slim_of.Goals as goal

pub add_headers-requires : goal.add_headers-requires
add_headers-requires c =
    omega (
      arith,
      ap length (c.deref.ensures.value ∙ c.in_ok-segments.ensures),
      length-slim_segments c.contents_start-start.result c.len.result c.args.pieces.now,
      c.requires.few,
    )

pub returns-clause-bytes : goal.returns-clause-bytes
returns-clause-bytes c =
    slim_made c.args.dump.now.core (byte_at (regions_of c.args.dump.now)) c.args.pieces.now c.core-core.result.now
    c.deref-2.result.now c.contents_start-start.result c.len.result c.deref.result.now c.machine.result
    c.new-bytes.result.items c.add_headers.new.bytes.items c.add_pieces.new.bytes.items
    c.extend_from_slice.new.self.items
    c.core-core.ensures.same
    (c.deref-2.ensures.value ∙ c.in_ok-notes.ensures)
    c.contents_start-start.ensures
    (omega (arith, c.deref-2.ensures.len))
    (c.deref.ensures.value ∙ c.in_ok-segments.ensures)
    c.new-bytes.ensures.items
    c.machine.ensures
    c.in_ok-add_headers.ensures
    c.in_ok-add_pieces.ensures
    c.in_ok-extend_from_slice.ensures.items
