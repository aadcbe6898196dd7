-- What is none where it was not read, and one reader after another.
use Rattle.std.proofs.Common.{◌≡◌, ℕ, ◌+◌, refl, sym, ap, ◌∙◌, arith}
use Rattle.std.specs.Prelude.{Option, Some, None, Result, Ok, Err, IfOk}
use Rattle.process_memory.specs.Memory.{Memory, Found, Fault}
use Rattle.process_memory.specs.Memory.Fault.{Missing}
use Rattle.process_memory.specs.declared.memory.ReadFault.{ReadFault}
use Rattle.process_memory.specs.declared.memory.ReadFault.TheVariants.{Unreadable}
use Rattle.process_memory.specs.Seen.{Answers, FaultIs, Reading, Reads, Seen, read_fault}
use Rattle.process_memory.proofs.Reading.{reading_gives, reading_then}
use Rattle.py_names.specs.NamesError.{names_fault}
use Rattle.py_names.specs.declared.names_error.NamesError.{NamesError}
use Rattle.thread_exceptions.specs.declared.error.ExceptionsError.{ExceptionsError}
use Rattle.py_exceptions.specs.Faults.{IsOrNone, NoneBy, found_or_none, known}

module _ {T : Type 0} (d : Found (Option T)) (r : Result (Option T) ExceptionsError) where
  pub none_by : (o : Option Fault) → FaultIs d o → NoneBy o r → IfOk r (λ x. x ≡ found_or_none d)
  none_by None q k = rw k tt
  none_by (Some f) q k = rw (k, q) refl

  none_known : (found : Result (Option T) NamesError) → Answers names_fault d found → IsOrNone found r
      → IfOk r (λ x. x ≡ found_or_none d)
  none_known (Ok x) p h = rw (h, p.is) refl
  none_known (Err e) p h = none_by (names_fault e) p.is h

-- what was read, or none
pub reads_or_none : {T : Type 0} {n : ℕ} {s0 s1 : Seen} {d : Memory → Found (Option T)}
    {found : Result (Option T) NamesError} (r : Result (Option T) ExceptionsError) → Reads names_fault n s0 s1 d found
    → IsOrNone found r
    → Reading n s0 s1 (λ m. IfOk r (λ x. x ≡ found_or_none (d m)))
reads_or_none {n = n} {d = d} {found = found} r p h =
    reading_gives n _ p (omega arith) (λ m a. none_known (d m) r found a h)

-- one reader after another, with what each gives
pub reading_and : {n k : ℕ} {s0 s1 s2 : Seen} {P Q : Memory → Type 0} → Reading n s0 s1 P → Reading k s1 s2 Q
    → Reading (n + k) s0 s2 (λ m. P m × Q m)
reading_and p q = reading_then _ p q (λ m a b. (a, b))

-- what was read is what is defined otherwise
pub told_as : {T E : Type 0} (r : Result T E) (x y : T) → IfOk r (λ t. t ≡ x) → x ≡ y → IfOk r (λ t. t ≡ y)
told_as (Ok t) x y h e = h ∙ e
told_as (Err e') x y h e = tt

-- a range that is not in memory
pub lost_known : {T : Type 0} (d : Found T) (e : ReadFault) (a n : ℕ) → Answers {T = T} read_fault d (Err e)
    → e ≡ Unreadable a n
    → None ≡ known d
lost_known d e a n h is =
    let lost = rw is at h in
    let same : d ≡ Err (Missing a n) = lost.is in
    sym (ap known same)

-- the same of what is shown of it
pub shown_as : {T S E : Type 0} (view : T → S) (r : Result T E) (x y : S) → IfOk r (λ t. view t ≡ x) → x ≡ y
    → IfOk r (λ t. view t ≡ y)
shown_as view (Ok t) x y h e = h ∙ e
shown_as view (Err e') x y h e = tt
