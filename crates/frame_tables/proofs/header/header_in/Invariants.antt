use Rattle.std.proofs.Common.{◌≡◌}
use Rattle.std.specs.List.{find}
use Rattle.elf64_core.specs.Rest.{segments_left}
use Rattle.frame_tables.specs.Headers.{is_header}
use Rattle.frame_tables.proofs.header.header_in.Given as goal

abbrev pub invariant-loop-segment : goal.invariant-loop-segment
invariant-loop-segment l = find is_header (segments_left l.segment-iterator)
    ≡ find is_header (segments_left l.fn.segments)
