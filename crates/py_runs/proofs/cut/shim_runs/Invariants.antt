use Rattle.std.proofs.Common.{◌≡◌, map, take}
use Rattle.py_runs.specs.Cuts.{shim_run}
use Rattle.py_runs.proofs.cut.shim_runs.Given as goal

abbrev pub invariant-loop-span : goal.invariant-loop-span
invariant-loop-span l = l.runs.items ≡ map shim_run (take l.span-index l.spans)
