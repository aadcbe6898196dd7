use Rattle.std.proofs.Common.{◌≡◌, ◌++◌}
use Rattle.elf64_core.specs.Header.{segments_of}
use Rattle.elf64_core.specs.Rest.{segments_left}
use Rattle.covering_symbols.proofs.segment_table.segments_in.Given as goal

abbrev pub invariant-loop-segment : goal.invariant-loop-segment
invariant-loop-segment l = l.segments.items ++ segments_left l.segment-iterator ≡ segments_of l.elf
