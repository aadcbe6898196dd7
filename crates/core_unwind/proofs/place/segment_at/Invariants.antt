use Rattle.std.proofs.Common.{◌≡◌}
use Rattle.std.specs.List.{find}
use Rattle.elf64_core.specs.Rest.{segments_left}
use Rattle.core_unwind.specs.Places.{holds_code}
use Rattle.core_unwind.proofs.place.segment_at.Given as goal

abbrev pub invariant-loop-segment : goal.invariant-loop-segment
invariant-loop-segment l = find (holds_code l.place) (segments_left l.segment-iterator)
    ≡ find (holds_code l.place) (segments_left l.fn.segments)
