use Rattle.std.proofs.Common.{◌≡◌, ◌++◌, drop, length}
use Rattle.std.specs.List.{flat_map}
use Rattle.core_slim.specs.Files.{file_header, number_of, program_header}
use Rattle.core_slim.proofs.headers.add_headers.Given as goal

abbrev pub invariant-loop-segment : goal.invariant-loop-segment
invariant-loop-segment l =
    l.bytes.items ++ flat_map program_header (drop l.segment-index l.segments)
    ≡ l.fn.bytes.items ++ file_header (number_of l.fn.machine) (length l.segments) ++ flat_map program_header l.segments
