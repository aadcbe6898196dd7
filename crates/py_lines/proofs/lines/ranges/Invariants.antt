use Rattle.std.proofs.Common.{◌≡◌, List, ◌++◌, length}
use Rattle.py_lines.specs.declared.lines.LineRange.{LineRange}
use Rattle.py_lines.specs.Lines.{ranges_of}
use Rattle.py_lines.specs.Places.{IsNear}
use Rattle.py_lines.proofs.Places.{IsAhead}
use Rattle.py_lines.proofs.lines.ranges.Given as goal

-- the ranges found so far, and those ahead, are the table's
abbrev pub invariant-loop-entry : goal.invariant-loop-entry
invariant-loop-entry l = record {
  near : IsNear 0 l.place;
  walk : (ahead : List LineRange) × (l.found.items ++ ahead ≡ ranges_of l.family l.first l.table) × IsAhead l.family l.rest l.place ahead;
}

abbrev pub decreases-loop-entry : goal.decreases-loop-entry
decreases-loop-entry l = length l.rest
