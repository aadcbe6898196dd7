use Rattle.std.proofs.Common.{map}
use Rattle.py_selftest.specs.Checking.{key_shown}
use Rattle.py_selftest.proofs.KeySteps.{TellingKeys}
use Rattle.py_selftest.proofs.checking.keys_told.Given as goal

abbrev pub invariant-loop-row : goal.invariant-loop-row
invariant-loop-row g l = TellingKeys l.layout l.telling l.rows (g.P.ProcessMemory.seen l.initial.process)
    (g.P.ProcessMemory.seen l.process) l.row-index (map key_shown l.keys.items)
