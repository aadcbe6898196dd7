-- There is one answer alone of what is told of a thread.
use Rattle.std.proofs.Common.{◌≡◌, ℕ, List, map, refl, sym, ◌∙◌, ap}
use Rattle.std.specs.Prelude.{Ok, Err, Result, IfOk, Option}
use Rattle.process_memory.specs.Memory.{Memory}
use Rattle.py_fields.specs.declared.layout.Layout.{Layout}
use Rattle.thread_exceptions.specs.declared.error.ExceptionsError.{ExceptionsError}
use Rattle.thread_exceptions.specs.Thread.{Thread, thread_of}
use Rattle.thread_exceptions.proofs.OneThread.{only_thread}
use Rattle.py_exceptions.specs.declared.described.Described.{Described}
use Rattle.py_exceptions.specs.declared.thread.ToldThread.{ToldThread}
use Rattle.py_exceptions.specs.Exceptions.{ExceptionShown, met_told_at}
use Rattle.py_exceptions.specs.Threads.{IsTold, PartsShown, ToldShown, raised_parts_at, told_shown}

abbrev told_with : Thread → Option PartsShown → List (Option ExceptionShown) → ToldShown
told_with thread raised told = record { thread = thread; raised = raised; told = told }

same_parts : {a b : Thread} {r s : Option PartsShown} {x y : List (Option ExceptionShown)} → a ≡ b → r ≡ s → x ≡ y
    → told_with a r x ≡ told_with b s y
same_parts h i j = rw (h, i, j) refl

pub only_told : (l : Layout) (d : Described) (m : Memory) (at : ℕ) (r : Result ToldThread ExceptionsError)
    → IfOk r (λ told. IsTold l d m at (told_shown told)) → (other : ToldShown) → IsTold l d m at other
    → IfOk r (λ told. told_shown told ≡ other)
only_told l d m at (Ok t) h other is =
    let same : thread_of t.thread ≡ other.thread = only_thread d.thread m at (Ok t.thread) h.thread other.thread
    is.thread in
    same_parts same
    (h.raised ∙ ap (λ (th : Thread). raised_parts_at l d m at th.raised) same ∙ sym is.raised)
    (h.told ∙ ap (λ (th : Thread). map (λ x. met_told_at l d m x) th.met) same ∙ sym is.told)
only_told l d m at (Err e) h other is = tt
