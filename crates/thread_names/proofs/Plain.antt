-- The tree of names has no float.
use Rattle.std.proofs.Common.{◌≡◌, ℕ, false, List, [], ◌∷◌, Option, Some, None, refl, ap, ◌∙◌}
use Rattle.std.specs.Prelude.{◌||◌}
use Rattle.serde_json.specs.Written.{has_float}
use Rattle.py_names.specs.declared.names_error.NamesError.{NamesError}
use Rattle.thread_names.specs.Trees.{fault_tree, interpreter_tree, name_tree, names_tree, thread_fault_tree}
use Rattle.thread_names.specs.Trees.{thread_tree, threads_tree}
use Rattle.thread_names.specs.declared.names.InterpreterNames.{InterpreterNames}
use Rattle.thread_names.specs.declared.names.ThreadName.{ThreadName}

name : (n : Option (List ℕ)) → has_float (name_tree n) ≡ false
name None = refl
name (Some n) = refl

fault : (e : Option NamesError) → has_float (fault_tree e) ≡ false
fault None = refl
fault (Some e) = refl

lost : (e : Option NamesError) → has_float (thread_fault_tree e) ≡ false
lost None = refl
lost (Some e) = refl

thread : (t : ThreadName) → has_float (thread_tree t) ≡ false
thread t = λ i. lost t.fault i || (name t.name i || (false || false))

threads : (ts : List ThreadName) → has_float (threads_tree ts) ≡ false
threads [] = refl
threads (t ∷ ts) = ap (λ b. b || has_float (threads_tree ts)) (thread t) ∙ threads ts

interpreter : (n : InterpreterNames) → has_float (interpreter_tree n) ≡ false
interpreter n = λ i. fault n.fault i || (false || (threads n.threads.items i || (false || false)))

pub no_float : (ns : List InterpreterNames) → has_float (names_tree ns) ≡ false
no_float [] = refl
no_float (n ∷ ns) = ap (λ b. b || has_float (names_tree ns)) (interpreter n) ∙ no_float ns
