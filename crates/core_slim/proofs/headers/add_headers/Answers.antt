use Rattle.std.proofs.Common.{◌++◌, ap, ◌∙◌}
use Rattle.std.specs.List.{flat_map}
use Rattle.elf64_core.specs.declared.segment.Segment.{Segment}
use Rattle.core_slim.specs.Files.{program_header}
use Rattle.core_slim.proofs.Appending.{none_more, piece_more}
use Rattle.core_slim.proofs.headers.add_headers.Goals as goal

pub loop-segment-init : goal.loop-segment-init
loop-segment-init c =
    let rest = flat_map program_header c.args.segments.now in
    ap (λ bytes. bytes ++ rest)
    (c.in_ok-extend_from_slice.ensures.items ∙ ap (λ bytes. c.args.bytes.now.items ++ bytes) c.file_header.ensures)

pub loop-segment-preserved : goal.loop-segment-preserved
loop-segment-preserved c =
    let none : Segment = record { kind = 0; flags = 0; offset = 0; addr = 0; file_size = 0; mem_size = 0 } in
    piece_more program_header _ c.loop-segment.bytes.items c.extend_from_slice-in-loop-segment.new.self.items
    c.args.segments.now c.loop-segment.segment-index none c.loop-segment-test.true c.loop-segment.invariant
    (c.in_ok-extend_from_slice-2.ensures.items
    ∙ ap (λ bytes. c.loop-segment.bytes.items ++ bytes) c.program_header.ensures)

pub returns : goal.returns
returns c =
    none_more program_header _ c.loop-segment.bytes.items c.args.segments.now c.loop-segment.segment-index
    c.loop-segment-test.false c.loop-segment.invariant
