use Rattle.std.proofs.Common.{◌≡◌, drop}
use Rattle.py_fields.specs.Fronts.{are_runs, are_runs_after}
use Rattle.py_fields.proofs.spelling.are_runs.Given as goal

abbrev pub invariant-loop-byte : goal.invariant-loop-byte
invariant-loop-byte l = are_runs l.metadata ≡ are_runs_after l.after_dot (drop l.byte-index l.metadata)
