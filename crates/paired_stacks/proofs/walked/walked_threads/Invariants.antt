use Rattle.std.proofs.Common.{◌≡◌, take}
use Rattle.paired_stacks.specs.Walked.{walked_threads}
use Rattle.paired_stacks.proofs.walked.walked_threads.Given as goal

abbrev pub invariant-loop-interpreter : goal.invariant-loop-interpreter
invariant-loop-interpreter l = l.walked.items ≡ walked_threads (take l.interpreter-index l.interpreters)
