use Rattle.std.proofs.Common.{◌≡◌, take}
use Rattle.memory_sections.specs.Pythons.{python_threads}
use Rattle.memory_sections.proofs.pythons.python_threads.Given as goal

abbrev pub invariant-loop-interpreter : goal.invariant-loop-interpreter
invariant-loop-interpreter l = l.threads.items ≡ python_threads (take l.interpreter-index l.interpreters)
