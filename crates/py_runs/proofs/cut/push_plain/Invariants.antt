use Rattle.std.proofs.Common.{◌≡◌, ◌++◌, map, take}
use Rattle.py_runs.specs.Cuts.{plain_run}
use Rattle.py_runs.proofs.cut.push_plain.Given as goal

abbrev pub invariant-loop-span : goal.invariant-loop-span
invariant-loop-span l = l.runs.items ≡ l.initial.runs.items ++ map plain_run (take l.span-index l.spans)
