use Rattle.std.proofs.Common.{◌≡◌, ◌<◌, ◌++◌, ℕ, length}
use Rattle.std.specs.Prelude.{None}
use Rattle.py_lines.specs.Coding.{first_unordered, coded, coded_behind, AreLines}
use Rattle.py_lines.proofs.encoding.encode.Given as goal

-- the table, and what is written for the ranges that are left, are the whole
abbrev pub invariant-loop-range : goal.invariant-loop-range
invariant-loop-range l = record {
  short : length l.table.items < 65536;
  ordered : (at : ℕ) × (first_unordered l.family at l.rest ≡ None);
  lines : AreLines l.rest → AreLines l.ranges;
  whole : l.table.items ++ coded_behind l.family l.last l.line l.rest ≡ coded l.family l.first l.ranges;
}

abbrev pub decreases-loop-range : goal.decreases-loop-range
decreases-loop-range l = length l.rest
