-- Fronts of chains: the first members, each the next of the one before, and how they end. A chain's members name one
-- another, so that one of them that was lost loses those behind it, and none in front of it.
use Rattle.std.specs.Prelude.{◌≡◌, ◌≢◌, ℕ, zero, suc, ◌<◌, ◌≤◌, List, [], ◌∷◌, ◌++◌, length, Result, Ok, Err, IsOkAnd}
use Rattle.process_memory.specs.Memory.{Fault, Found}

-- why what stands at an address is no member of a chain: it isn't in memory, or it is another interpreter's
pub data Break : Type 0 where
  Lost : Fault → Break
  Stray : (interpreter : ℕ) → Break

-- how a front ends: at null; before a further member, where no more may be met; before what is none
pub data Ending : Type 0 where
  Whole : Ending
  Cut : Ending
  Broken : Break → Ending

-- the first members of a chain, by their addresses, and how they end
pub record Front : Type 0 where
  pub members : List ℕ
  pub ending : Ending

-- from `head` on each member of the list leads to the one after it, and the last leads to `at`
unfoldable pub Leads : (ℕ → Result ℕ Break) → ℕ → List ℕ → ℕ → Type 0
Leads next head [] at = head ≡ at
Leads next head (x ∷ xs) at = (head ≢ 0) × (x ≡ head) × IsOkAnd (next x) (λ n. Leads next n xs at)

-- how a front of so many members ends, of which the last leads to `at`
abbrev pub EndsAt : (ℕ → Result ℕ Break) → (limit met at : ℕ) → Ending → Type 0
EndsAt next limit met at Whole = at ≡ 0
EndsAt next limit met at Cut = (at ≢ 0) × (met ≡ limit)
EndsAt next limit met at (Broken why) = (at ≢ 0) × (met < limit) × (next at ≡ Err why)

-- the front of at most `limit` members of the chain from `head` on: the first members, in order and with none left
-- out, and how they end
pub record IsFront (next : ℕ → Result ℕ Break) (limit head : ℕ) (front : Front) : Type 0 where
  pub at : ℕ
  pub leads : Leads next head front.members at
  pub within : length front.members ≤ limit
  pub ends : EndsAt next limit (length front.members) at front.ending

-- where the next member of a chain whose records alone can be missing is found
abbrev pub or_lost : {T : Type 0} → Found T → Result T Break
or_lost (Ok x) = Ok x
or_lost (Err f) = Err (Lost f)

-- ---- the same, as it is read

-- a front with these members before its own
abbrev pub behind : List ℕ → Front → Front
behind xs r = record { members = xs ++ r.members; ending = r.ending }

-- the front from one member on: it and those after it, or broken before it where it is none
abbrev pub front_by : ℕ → Result ℕ Break → (ℕ → Front) → Front
front_by a (Ok n) rest = behind (a ∷ []) (rest n)
front_by a (Err why) rest = record { members = []; ending = Broken why }

-- the front of at most so many members of the chain from an address on, where 0 is the chain's end
unfoldable pub front_at : (ℕ → Result ℕ Break) → ℕ → ℕ → Front
front_at next limit zero = record { members = []; ending = Whole }
front_at next zero (suc a) = record { members = []; ending = Cut }
front_at next (suc limit) (suc a) = front_by (suc a) (next (suc a)) (front_at next limit)
