-- There is one answer alone of what a thread raises and handles.
use Rattle.std.proofs.Common.{◌≡◌, ℕ, List, refl, sym, ◌∙◌, ap}
use Rattle.std.specs.Prelude.{Ok, Err, Result, IfOk}
use Rattle.process_memory.specs.Memory.{Memory}
use Rattle.thread_exceptions.specs.declared.error.ExceptionsError.{ExceptionsError}
use Rattle.thread_exceptions.specs.declared.places.Places.{Places}
use Rattle.thread_exceptions.specs.declared.thread.ThreadExceptions.{ThreadExceptions}
use Rattle.thread_exceptions.specs.Discovery.{AreMet, Met}
use Rattle.thread_exceptions.specs.Exceptions.{what_at}
use Rattle.thread_exceptions.specs.Links.{End}
use Rattle.thread_exceptions.specs.Thread.{Handled, IsThread, Raised, Thread, roots_of, thread_of}
use Rattle.thread_exceptions.proofs.Uniqueness.{met_unique}

abbrev thread_by : Raised → List Handled → End → List Met → Thread
thread_by raised handled end met = record { raised = raised; handled = handled; end = end; met = met }

same_parts : {r s : Raised} {h k : List Handled} {e f : End} {x y : List Met} → r ≡ s → h ≡ k → e ≡ f → x ≡ y
    → thread_by r h e x ≡ thread_by s k f y
same_parts a b c d = rw (a, b, c, d) refl

thread_unique : (p : Places) (m : Memory) (thread : ℕ) (x y : Thread) → IsThread p m thread x → IsThread p m thread y
    → x ≡ y
thread_unique p m thread x y hx hy =
    let raised : x.raised ≡ y.raised = hx.raised ∙ sym hy.raised in
    let handled : x.handled ≡ y.handled = hx.handled ∙ sym hy.handled in
    let end : x.end ≡ y.end = hx.end ∙ sym hy.end in
    let met : AreMet (what_at p m) 1024 (roots_of x.raised x.handled) y.met = rw (raised, handled) hy.met in
    same_parts raised handled end (met_unique (what_at p m) 1024 (roots_of x.raised x.handled) x.met y.met hx.met met)

pub only_thread : (p : Places) (m : Memory) (thread : ℕ) (r : Result ThreadExceptions ExceptionsError)
    → IfOk r (λ told. IsThread p m thread (thread_of told)) → (other : Thread) → IsThread p m thread other
    → IfOk r (λ told. thread_of told ≡ other)
only_thread p m thread (Ok told) h other is = thread_unique p m thread (thread_of told) other h is
only_thread p m thread (Err e) h other is = tt
