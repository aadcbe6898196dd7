use Rattle.std.proofs.Common.{◌≡◌, ◌+◌, drop}
use Rattle.frame_lines.specs.Entries.{tail_len}
use Rattle.frame_lines.proofs.entry.tail_len.Given as goal

abbrev pub invariant-loop-i : goal.invariant-loop-i
invariant-loop-i l = tail_len l.bytes ≡ l.i + tail_len (drop l.i l.bytes)
