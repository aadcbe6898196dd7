-- How many records a chain has at most.
use Rattle.std.proofs.Common.{◌≡◌, ℕ, zero, suc, ◌+◌, ◌≤◌, Bool, true, false, List, [], ◌∷◌, ◌++◌, length, refl}
use Rattle.std.proofs.Common.{arith, ap}
use Rattle.std.specs.Prelude.{Ok}
use Rattle.process_memory.specs.Memory.{Memory}
use Rattle.process_memory.specs.Seen.{Reading, Seen}
use Rattle.process_memory.proofs.Reading.{reading_here}
use Rattle.thread_exceptions.specs.declared.links.Links.{Links}
use Rattle.thread_exceptions.specs.Links.{Chain, End, Turn, behind, chain_from, has}
use Rattle.thread_exceptions.specs.Links.End.{Cycle, Cut, Stops}
use Rattle.thread_exceptions.specs.Links.Turn.{To, Last, Before}
use Rattle.thread_exceptions.specs.Turns.{chain_of}

pub chain_few : (turn : ℕ → Turn) (met : List ℕ) (left a : ℕ) → length (chain_from turn met left a).members ≤ left
unfolding chain_from
chain_few turn met zero a = by (has met a) refl
  where
    by : (b : Bool) → has met a ≡ b → length (chain_from turn met zero a).members ≤ zero
    by true e = rw e (omega arith)
    by false e = rw e (omega arith)
chain_few turn met (suc left) a = by (λ n. chain_few turn (met ++ a ∷ []) left n) (has met a) (turn a) refl refl
  where
    by : ((n : ℕ) → length (chain_from turn (met ++ a ∷ []) left n).members ≤ left) → (b : Bool) (t : Turn)
        → has met a ≡ b
        → turn a ≡ t → length (chain_from turn met (suc left) a).members ≤ suc left
    by rest true t e f = rw e (omega arith)
    by rest false (To n) e f = rw (e, f) (omega (arith, rest n))
    by rest false (Last why) e f = rw (e, f) (omega arith)
    by rest false (Before why) e f = rw (e, f) (omega arith)

pub links_few : {n limit : ℕ} {s0 s1 : Seen} (turn : Memory → ℕ → Turn) (head : ℕ) (links : Links)
    → Reading n s0 s1 (λ m. chain_of links ≡ chain_from (turn m) [] limit head) → length links.members.items ≤ limit
links_few {limit = limit} turn head links r = rw (ap (λ (c : Chain). length c.members) (reading_here r))
    (chain_few _ [] limit head)
