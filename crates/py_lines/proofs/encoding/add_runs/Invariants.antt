use Rattle.std.proofs.Common.{◌≡◌, ◌<◌, ◌++◌, length}
use Rattle.py_lines.specs.Coding.{runs_bytes, AreRuns}
use Rattle.py_lines.proofs.encoding.add_runs.Given as goal

-- the table, and the runs that are left, are the whole
abbrev pub invariant-loop-run : goal.invariant-loop-run
invariant-loop-run l = record {
  short : length l.table.items < 65536;
  runs : AreRuns l.family l.rest;
  whole : l.table.items ++ runs_bytes l.family l.rest ≡ l.fn.table.items ++ runs_bytes l.family l.runs;
}

abbrev pub decreases-loop-run : goal.decreases-loop-run
decreases-loop-run l = length l.rest
