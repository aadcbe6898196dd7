use Rattle.std.proofs.Common.{string_bytes}
use Rattle.py_waits.specs.Text.{threads_text}
use Rattle.py_waits.specs.declared.told.InterpreterWaits.{InterpreterWaits}
use Rattle.py_waits.proofs.Parts.{push_more}
use Rattle.py_waits.proofs.text.push_waits.Goals as goal

pub loop-interpreter-preserved : goal.loop-interpreter-preserved
loop-interpreter-preserved c =
    push_more (λ (i : InterpreterWaits). threads_text i.threads.items) (string_bytes c.args.text.now) _ _
    c.args.waits.now c.loop-interpreter.interpreter-index c.interpreter-item.result c.interpreter-item.result
    c.loop-interpreter-test.true c.interpreter-item.is c.loop-interpreter.invariant
    (rw c.deref.ensures.value at c.in_ok-push_threads.ensures)
