use Rattle.std.proofs.Common.{◌≡◌}
use Rattle.std.specs.List.{find}
use Rattle.elf64_core.specs.Rest.{segments_left}
use Rattle.frame_tables.specs.Parts.{holds_address}
use Rattle.frame_tables.proofs.part.segment_at.Given as goal

abbrev pub invariant-loop-segment : goal.invariant-loop-segment
invariant-loop-segment l = find (holds_address l.address) (segments_left l.segment-iterator)
    ≡ find (holds_address l.address) (segments_left l.fn.segments)
