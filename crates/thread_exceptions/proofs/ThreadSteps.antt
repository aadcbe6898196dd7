-- What a thread raises and handles, by what was read.
use Rattle.std.proofs.Common.{◌≡◌, ◌≢◌, ℕ, ◌+◌, ◌*◌, ◌<◌, ◌≤◌, List, [], ◌∷◌, ◌++◌, length, map, take, get_or, refl}
use Rattle.std.proofs.Common.{sym, ap, ◌∙◌, arith}
use Rattle.std.specs.Prelude.{Ok, Err, Result, IfOk, not, false}
use Rattle.process_memory.specs.Memory.{Memory, Found, word_at}
use Rattle.process_memory.specs.declared.memory.ReadFault.{ReadFault}
use Rattle.process_memory.specs.Seen.{Answers, Reading, Seen, read_fault}
use Rattle.process_memory.proofs.Reading.{reading_then}
use Rattle.thread_exceptions.specs.declared.links.Lost.{Lost}
use Rattle.thread_exceptions.specs.declared.places.Places.{Places}
use Rattle.thread_exceptions.specs.Links.{Chain, End}
use Rattle.thread_exceptions.specs.Links.{Stop as stop}
use Rattle.thread_exceptions.specs.Links.End.{Stops}
use Rattle.thread_exceptions.specs.Exceptions.{is_exception}
use Rattle.thread_exceptions.specs.Thread.{Raised, Value, is_other_by, items_at, items_by, raised_by, value_by}
use Rattle.thread_exceptions.specs.Thread.{value_of}
use Rattle.thread_exceptions.specs.declared.thread.Value as read_value
use Rattle.thread_exceptions.specs.Turns.{IsLost, chain_of}
use Rattle.thread_exceptions.specs.declared.error.ExceptionsError.{ExceptionsError}
use Rattle.thread_exceptions.specs.declared.links.Links.{Links}
use Rattle.thread_exceptions.proofs.Steps.{fault_of, is_lost}

pub raised_lost : (d : Found Raised) (e : ReadFault) (l : Lost) → Answers {T = Raised} read_fault d (Err e)
    → IsLost e (Ok l)
    → Raised.Lost (fault_of l) ≡ raised_by d
raised_lost d e l h is = sym (ap raised_by (is_lost d e l h is))

module _ (p : Places) (m : Memory) where
  pub value_read : (d : Found ℕ) (addr : ℕ) (r : Result read_value.Value ExceptionsError)
      → Answers {E = ReadFault} read_fault d (Ok addr)
      → IfOk r (λ v. value_of v ≡ value_by p m (Ok addr)) → IfOk r (λ v. value_of v ≡ value_by p m d)
  value_read d addr (Ok v) h e = e ∙ sym (ap (value_by p m) h.is)
  value_read d addr (Err error) h e = tt

  pub value_lost : (d : Found ℕ) (e : ReadFault) (l : Lost) → Answers {T = ℕ} read_fault d (Err e) → IsLost e (Ok l)
      → Value.Lost (fault_of l) ≡ value_by p m d
  value_lost d e l h is = sym (ap (value_by p m) (is_lost d e l h is))

pub other_read : (d : Found ℕ) (flags : ℕ) → Answers {E = ReadFault} read_fault d (Ok flags)
    → not (is_exception flags) ≡ is_other_by d
other_read d flags h = sym (ap is_other_by h.is)

pub other_lost : (d : Found ℕ) (e : ReadFault) (l : Lost) → Answers {T = ℕ} read_fault d (Err e) → IsLost e (Ok l)
    → false ≡ is_other_by d
other_lost d e l h is = sym (ap is_other_by (is_lost d e l h is))

pub items_lost : (p : Places) (m : Memory) (thread : ℕ) (e : ReadFault) (l : Lost)
    → Answers {T = ℕ} read_fault (word_at m (thread + p.newest)) (Err e) → IsLost e (Ok l)
    → record { members = []; end = Stops (stop.Lost (fault_of l)) } ≡ items_at p m thread
unfolding items_at
items_lost p m thread e l h is = sym (ap (items_by p m) (is_lost (word_at m (thread + p.newest)) e l h is))

pub items_read : (p : Places) (m : Memory) (thread newest : ℕ) (r : Result Links ExceptionsError)
    → Answers {E = ReadFault} read_fault (word_at m (thread + p.newest)) (Ok newest)
    → IfOk r (λ c. chain_of c ≡ items_by p m (Ok newest)) → IfOk r (λ c. chain_of c ≡ items_at p m thread)
unfolding items_at
items_read p m thread newest (Ok c) h e = e ∙ sym (ap (items_by p m) h.is)
items_read p m thread newest (Err error) h e = tt

-- one reader after another, with what each gives
pub reading_and : {n k : ℕ} {s0 s1 s2 : Seen} {P Q : Memory → Type 0} → Reading n s0 s1 P → Reading k s1 s2 Q
    → Reading (n + k) s0 s2 (λ m. P m × Q m)
reading_and p q = reading_then _ p q (λ m a b. (a, b))
