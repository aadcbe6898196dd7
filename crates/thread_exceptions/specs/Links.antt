-- Chains of records, each of which names the next one: the records from an address on, and how the chain ends. That a
-- chain ends at a record that it met, and at a limit, is this project's rule.
use Rattle.std.specs.Prelude.{◌≡◌, ◌≢◌, ℕ, zero, suc, ◌-◌, ◌≤◌, nat_eq, Bool, true, false, List, [], ◌∷◌, ◌++◌, length}
use Rattle.std.specs.List.{AllPairs, Contains, list_any}
use Rattle.process_memory.specs.Memory.{Fault}

-- what ends a chain by itself
pub data Stop : Type 0 where
  Null : Stop
  Lost : Fault → Stop

-- what stands at an address: a record that names another one; the last record; or none
pub data Turn : Type 0 where
  To : ℕ → Turn
  Last : Stop → Turn
  Before : Stop → Turn

-- how a chain ends: by itself; at a record that it met before; before one of which only the address is known, where no
-- more may be met
pub data End : Type 0 where
  Stops : Stop → End
  Cycle : (address : ℕ) → End
  Cut : (address : ℕ) → End

-- the addresses of a chain's records, and how it ends
pub record Chain : Type 0 where
  pub members : List ℕ
  pub end : End

-- from `head` on each record of the list names the one after it, and the last the one at `at`
unfoldable pub Leads : (ℕ → Turn) → ℕ → List ℕ → ℕ → Type 0
Leads turn head [] at = head ≡ at
Leads turn head (x ∷ xs) at = (x ≡ head) × (n : ℕ) × (turn x ≡ To n) × Leads turn n xs at

-- the record at which a chain stops, if what is there is one
abbrev pub StopsAt : Turn → (at : ℕ) → (last : List ℕ) → Stop → Type 0
StopsAt (To n) at last why = ⊥
StopsAt (Last stop) at last why = (last ≡ at ∷ []) × (stop ≡ why)
StopsAt (Before stop) at last why = (last ≡ []) × (stop ≡ why)

-- how a chain ends that has met some records, of which the last names the one at `at`, where so many more may be met;
-- and its last record, where that one names none
abbrev pub EndsAt : (ℕ → Turn) → (met : List ℕ) → (left at : ℕ) → (last : List ℕ) → End → Type 0
EndsAt turn met left at last (Cycle a) = Contains met at × (last ≡ []) × (a ≡ at)
EndsAt turn met left at last (Cut a) = (Contains met at → ⊥) × (left ≡ 0) × (last ≡ []) × (a ≡ at)
EndsAt turn met left at last (Stops why) = (Contains met at → ⊥) × (left ≢ 0) × StopsAt (turn at) at last why

-- the chain from `head` on, of which at most `limit` records are met: the records, in order, with none left out and
-- none twice, and how it ends
pub record IsLinks (turn : ℕ → Turn) (limit head : ℕ) (chain : Chain) : Type 0 where
  -- the records that name another one, which is the next
  pub waiting : List ℕ
  pub at : ℕ
  pub leads : Leads turn head waiting at
  pub once : AllPairs (λ x y. x ≢ y) waiting
  pub within : length waiting ≤ limit
  pub last : List ℕ
  pub members : chain.members ≡ waiting ++ last
  pub ends : EndsAt turn waiting (limit - length waiting) at last chain.end

-- ---- the same, as it is read

-- whether an address was met before
abbrev pub has : List ℕ → ℕ → Bool
has met a = list_any (λ x. nat_eq x a) met

-- a chain with these records before its own
abbrev pub behind : List ℕ → Chain → Chain
behind xs c = record { members = xs ++ c.members; end = c.end }

-- the chain from an address on, by what stands there and what follows
abbrev pub by_turn : ℕ → Turn → (ℕ → Chain) → Chain
by_turn a (To n) rest = behind (a ∷ []) (rest n)
by_turn a (Last why) rest = record { members = a ∷ []; end = Stops why }
by_turn a (Before why) rest = record { members = []; end = Stops why }

-- a chain that ends here where this address was met before; else the one that goes on
abbrev pub unless_met : Bool → ℕ → Chain → Chain
unless_met true a chain = record { members = []; end = Cycle a }
unless_met false a chain = chain

-- the chain from an address on, after some records, where so many more may be met
unfoldable pub chain_from : (ℕ → Turn) → (met : List ℕ) → (left : ℕ) → ℕ → Chain
chain_from turn met zero a = unless_met (has met a) a (record { members = []; end = Cut a })
chain_from turn met (suc left) a =
    unless_met (has met a) a (by_turn a (turn a) (λ n. chain_from turn (met ++ a ∷ []) left n))
