use Rattle.std.proofs.Common.{◌≡◌, ◌++◌, map, take, string_bytes}
use Rattle.std.specs.List.{concat}
use Rattle.py_waits.specs.Text.{threads_text}
use Rattle.py_waits.specs.declared.told.InterpreterWaits.{InterpreterWaits}
use Rattle.py_waits.proofs.text.push_waits.Given as goal

abbrev pub invariant-loop-interpreter : goal.invariant-loop-interpreter
invariant-loop-interpreter l = string_bytes l.text ≡ string_bytes l.initial.text ++ concat
    (map (λ (i : InterpreterWaits). threads_text i.threads.items) (take l.interpreter-index l.waits))
