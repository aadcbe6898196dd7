use Rattle.std.proofs.Common.{◌≡◌, ◌++◌, drop}
use Rattle.py_runs.specs.Cuts.{c_runs}
use Rattle.py_runs.proofs.cut.c_runs.Given as goal

abbrev pub invariant-loop-frame : goal.invariant-loop-frame
invariant-loop-frame l = c_runs l.frames l.spans ≡ l.runs.items ++ c_runs (drop l.frame-index l.frames) l.left
