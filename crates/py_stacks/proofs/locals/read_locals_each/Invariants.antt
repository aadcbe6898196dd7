use Rattle.py_stacks.specs.Records.{member_of}
use Rattle.py_stacks.proofs.LocalSteps.{Taking}
use Rattle.py_stacks.proofs.locals.read_locals_each.Given as goal

abbrev pub invariant-loop-index : goal.invariant-loop-index
invariant-loop-index g l = Taking l.layout (member_of l.records) (g.P.ProcessMemory.seen l.initial.process) (g.P.ProcessMemory.seen l.process) l.count l.index l.locals.items
