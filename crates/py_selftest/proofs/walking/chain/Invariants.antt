use Rattle.std.proofs.Common.{◌*◌}
use Rattle.py_selftest.specs.Walking.{met_shown}
use Rattle.py_selftest.proofs.Folding.{Folding, chain_rest}
use Rattle.py_selftest.proofs.walking.chain.Given as goal

abbrev pub invariant-loop-number : goal.invariant-loop-number
invariant-loop-number g l = Folding (45 * l.number) (g.P.ProcessMemory.seen l.initial.process)
    (g.P.ProcessMemory.seen l.process) (chain_rest l.layout l.release) (met_shown l.initial.met) l.number
    (met_shown l.met)
