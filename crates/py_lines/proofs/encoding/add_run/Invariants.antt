use Rattle.std.proofs.Common.{◌≡◌, ◌<◌, ◌≤◌, ◌++◌, length}
use Rattle.py_lines.specs.Coding.{entry_bytes, repeated}
use Rattle.py_lines.proofs.encoding.add_run.Given as goal

-- the table, and the entries that are left, are the whole
abbrev pub invariant-loop-left : goal.invariant-loop-left
invariant-loop-left l = record {
  most : l.left ≤ l.run.times;
  short : length l.table.items < 65536;
  whole : l.table.items ++ repeated l.left (entry_bytes l.family l.run.covers l.run.delta) ≡ l.fn.table.items ++ repeated l.run.times (entry_bytes l.family l.run.covers l.run.delta);
}

abbrev pub decreases-loop-left : goal.decreases-loop-left
decreases-loop-left l = l.left
