-- Steps that go on from a state, one after another.
use Rattle.std.proofs.Common.{◌≡◌, ℕ, suc, ◌+◌, ◌-◌, ◌<◌, ◌≤◌, List, length, drop, get_or, refl, ap, ◌∙◌, arith}
use Rattle.std.specs.Prelude.{Option, Some, None, Ok, Err}
use Rattle.std.proofs.lemmas.List.{drop_more, drop_all}
use Rattle.process_memory.specs.Memory.{Memory, Found, Fault, ◌>>=◌}
use Rattle.process_memory.specs.Seen.{FaultIs, Reading, Reads, Seen}
use Rattle.process_memory.proofs.Reading.{reading_then, reading_gives, reading_none}
use Rattle.py_fields.specs.declared.layout.Layout.{Layout}
use Rattle.py_selftest.specs.declared.telling.Release.{Release}
use Rattle.py_selftest.specs.declared.walking.ThreadPlace.{ThreadPlace}
use Rattle.py_selftest.specs.Walking.{MetShown, chain_from, step_at, thread_step, threads_from}

-- what the steps before a number came to: what is left from there on is what the whole is
pub record Folding {S : Type 0} (spent : ℕ) (s0 s1 : Seen) (rest : Memory → ℕ → S → Found S) (start : S) (number : ℕ)
    (state : S) : Type 0 where
  pub reading : Reading spent s0 s1 (λ m. rest m 0 start ≡ rest m number state)

pub folding_init : {S : Type 0} (rest : Memory → ℕ → S → Found S) (start : S) (seen : Seen)
    → Folding 0 seen seen rest start 0 start
folding_init rest start seen = record { reading = reading_none 0 seen _ (λ m. refl) }

module _ {S : Type 0} {spent : ℕ} {s0 s1 : Seen} {rest : Memory → ℕ → S → Found S} {start : S} {number : ℕ} {state : S}
  where
    pub folding_more : {E : Type 0} {fault : E → Option Fault} {n : ℕ} {s2 : Seen} (after : ℕ)
        (step : Memory → S → Found S) (new : S)
        → Folding spent s0 s1 rest start number state
        → ((m : Memory) (s : S) → rest m number s ≡ (step m s >>= rest m (number + 1)))
        → Reads {E = E} fault n s1 s2 (λ m. step m state) (Ok new) → spent + n ≤ after
        → Folding after s0 s2 rest start (number + 1) new
    folding_more after step new f goes a few = record {
      reading = reading_gives _ _
          (reading_then (λ m. rest m 0 start ≡ rest m (number + 1) new) f.reading a
          (λ m e x. e ∙ goes m state ∙ ap (λ d. d >>= rest m (number + 1)) x.is))
          few (λ m e. e);
    }

    pub folding_stop : {E E' : Type 0} {fault : E → Option Fault} {fault' : E' → Option Fault} {n : ℕ}
        {s2 : Seen} {e : E} (k : ℕ) (step : Memory → S → Found S) (e' : E')
        → Folding spent s0 s1 rest start number state
        → ((m : Memory) (s : S) → rest m number s ≡ (step m s >>= rest m (number + 1)))
        → Reads {T = S} fault n s1 s2 (λ m. step m state) (Err e) → fault' e' ≡ fault e → spent + n ≤ k
        → Reads {T = S} fault' k s0 s2 (λ m. rest m 0 start) (Err e')
    folding_stop {fault = fault} {e = e} k step e' f goes a same few = reading_gives _ _
        (reading_then (λ m. FaultIs (rest m 0 start) (fault e)) f.reading a
        (λ m d x. elim (fault e) as (λ o. FaultIs (step m state) o → FaultIs (rest m 0 start) o) [
          | None ↦ λ h. tt
          | Some f ↦ λ h. d ∙ goes m state ∙ ap (λ y. y >>= rest m (number + 1)) h
        ] x.is))
        few (λ m h. record { is = rw same h })

    pub folding_done : {E : Type 0} {fault : E → Option Fault} (k : ℕ)
        → Folding spent s0 s1 rest start number state → ((m : Memory) → rest m number state ≡ Ok state) → spent ≤ k
        → Reads {E = E} fault k s0 s1 (λ m. rest m 0 start) (Ok state)
    folding_done k f ends few = reading_gives _ _ f.reading few (λ m e. record { is = e ∙ ends m })

-- what is left of a chain of frames, and of threads
abbrev pub chain_rest : Layout → Release → Memory → ℕ → MetShown → Found MetShown
chain_rest l r m number = chain_from l r m (16 - number)

abbrev pub threads_rest : Layout → Release → List ℕ → List ThreadPlace → Memory → ℕ → MetShown → Found MetShown
threads_rest l r pointers threads m number = threads_from l r pointers m (drop number threads)

module _ (l : Layout) (r : Release) where
  chain_by : (m : Memory) (n k : ℕ) (s : MetShown) → n ≡ suc k
      → chain_from l r m n s ≡ (step_at l m r s >>= chain_from l r m k)
  unfolding chain_from
  chain_by m n k s is = rw is refl

  pub chain_goes : (number : ℕ) → number < 16 → (m : Memory) (s : MetShown)
      → chain_rest l r m number s ≡ (step_at l m r s >>= chain_rest l r m (number + 1))
  chain_goes number some m s = chain_by m (16 - number) (16 - (number + 1)) s (omega arith)

  chain_none : (m : Memory) (n : ℕ) (s : MetShown) → n ≡ 0 → chain_from l r m n s ≡ Ok s
  unfolding chain_from
  chain_none m n s is = rw is refl

  pub chain_ends : (number : ℕ) → 16 ≤ number → (m : Memory) (s : MetShown) → chain_rest l r m number s ≡ Ok s
  chain_ends number all m s = chain_none m (16 - number) s (omega arith)

module _ (l : Layout) (r : Release) (pointers : List ℕ) where
  pub threads_go : (threads : List ThreadPlace) (number : ℕ) (none : ThreadPlace) → number < length threads
      → (m : Memory) (s : MetShown)
      → threads_rest l r pointers threads m number s
      ≡ (thread_step l r pointers m (get_or threads number none) s >>= threads_rest l r pointers threads m (number + 1))
  unfolding threads_from
  threads_go threads number none some m s = ap (λ ts. threads_from l r pointers m ts s) (drop_more threads number none some)

  pub threads_end : (threads : List ThreadPlace) (number : ℕ) → length threads ≤ number → (m : Memory) (s : MetShown)
      → threads_rest l r pointers threads m number s ≡ Ok s
  unfolding threads_from
  threads_end threads number all m s = ap (λ ts. threads_from l r pointers m ts s) (drop_all number threads all)
