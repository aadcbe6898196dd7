use Rattle.std.proofs.Common.{length}
use Rattle.frame_lines.specs.Walks.{IsNear, line_held}
use Rattle.frame_lines.proofs.Ahead.{IsAhead}
use Rattle.frame_lines.proofs.walk.line_held.Given as goal

-- the line is that which the entries ahead have at the offset
abbrev pub invariant-loop-entry : goal.invariant-loop-entry
invariant-loop-entry l = record {
  near : IsNear 0 l.place;
  ahead : IsAhead l.form l.rest l.place l.offset (line_held l.form l.first l.table l.offset);
}

abbrev pub decreases-loop-entry : goal.decreases-loop-entry
decreases-loop-entry l = length l.rest
