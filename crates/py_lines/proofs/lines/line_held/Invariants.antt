use Rattle.std.proofs.Common.{◌≡◌, List, length}
use Rattle.py_lines.specs.declared.lines.LineRange.{LineRange}
use Rattle.py_lines.specs.Lines.{ranges_of, line_among}
use Rattle.py_lines.specs.Places.{IsNear}
use Rattle.py_lines.proofs.Places.{IsAhead}
use Rattle.py_lines.proofs.lines.line_held.Given as goal

-- the line is that which the ranges ahead have at the offset
abbrev pub invariant-loop-entry : goal.invariant-loop-entry
invariant-loop-entry l = record {
  near : IsNear 0 l.place;
  walk : (ahead : List LineRange) × (line_among ahead l.offset ≡ line_among (ranges_of l.family l.first l.table) l.offset) × IsAhead l.family l.rest l.place ahead;
}

abbrev pub decreases-loop-entry : goal.decreases-loop-entry
decreases-loop-entry l = length l.rest
