-- The tree of waits has no float.
use Rattle.std.proofs.Common.{◌≡◌, ℕ, false, List, [], ◌∷◌, Option, Some, None, refl, ap, ◌∙◌}
use Rattle.std.specs.Prelude.{◌||◌}
use Rattle.serde_json.specs.Written.{has_float}
use Rattle.py_waits.specs.Trees.{interpreter_tree, known_tree, owner_tree, rlock_tree, thread_tree, threads_tree}
use Rattle.py_waits.specs.Trees.{wait_tree, waits_tree}
use Rattle.py_waits.specs.declared.told.InterpreterWaits.{InterpreterWaits}
use Rattle.py_waits.specs.declared.told.ThreadWait.{ThreadWait}
use Rattle.py_waits.specs.declared.wait.Wait.{Wait}
use Rattle.py_waits.specs.declared.wait.Wait.TheVariants.{Interpreter, Lock, Rlock, Queue}

owner : (o : Option ℕ) → has_float (owner_tree o) ≡ false
owner None = refl
owner (Some o) = refl

rlock : (a : ℕ) (o : Option ℕ) → has_float (rlock_tree a o) ≡ false
rlock a o = λ i. false || (false || (owner o i || false))

wait : (w : Wait) → has_float (wait_tree w) ≡ false
wait Interpreter = refl
wait (Lock a) = refl
wait (Rlock a o) = rlock a o
wait (Queue a) = refl

known : (w : Option Wait) → has_float (known_tree w) ≡ false
known None = refl
known (Some w) = wait w

thread : (t : ThreadWait) → has_float (thread_tree t) ≡ false
thread t = λ i. known t.wait i || (false || false)

threads : (ts : List ThreadWait) → has_float (threads_tree ts) ≡ false
threads [] = refl
threads (t ∷ ts) = ap (λ b. b || has_float (threads_tree ts)) (thread t) ∙ threads ts

interpreter : (n : InterpreterWaits) → has_float (interpreter_tree n) ≡ false
interpreter n = λ i. false || (threads n.threads.items i || false)

pub no_float : (ns : List InterpreterWaits) → has_float (waits_tree ns) ≡ false
no_float [] = refl
no_float (n ∷ ns) = ap (λ b. b || has_float (waits_tree ns)) (interpreter n) ∙ no_float ns
