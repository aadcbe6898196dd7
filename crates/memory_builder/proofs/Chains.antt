-- Groups that were laid are a chain.
use Rattle.std.proofs.Common.{◌≡◌, ◌≢◌, ℕ, zero, suc, get_or, ◌+◌, ◌%◌, ◌<◌, ◌^◌, List, [], ◌∷◌, length, map, refl, ap₂}
use Rattle.std.proofs.Common.{arith, length-append}
use Rattle.std.specs.Prelude.{Ok}
use Rattle.std.specs.List.{AllByRecursion}
use Rattle.process_memory.specs.Memory.{Memory, Found}
use Rattle.process_memory.specs.Walk.{IsChain}
use Rattle.object_builder.specs.Placing.{Stands}
use Rattle.memory_builder.specs.Chains.{head_of, laid_chain, values_at, addresses_from, AllAt}
use Rattle.object_builder.proofs.Placing.{stands_left, stands_right}
use Rattle.std.specs.List.{sum_by}
use Rattle.std.proofs.lemmas.List.Sums.{sum_by-cons}

chain_more : (next : ℕ → Found ℕ) (head n : ℕ) (xs : List ℕ) → head ≢ 0 → next head ≡ Ok n → IsChain next n xs
    → IsChain next head (head ∷ xs)
unfolding IsChain
chain_more next head n xs some is rest = (some, refl, rw is rest)

chain_none : (next : ℕ → Found ℕ) → IsChain next 0 []
unfolding IsChain
chain_none next = refl

module _ {X : Type 0} (size : X → ℕ) where
  pub length-places : {T : Type 0} (val : ℕ → X → T) (a : ℕ) (xs : List X)
      → length (values_at size val a xs) ≡ length xs
  length-places val a [] = refl
  length-places val a (x ∷ xs) = omega (arith, length-places val (a + size x) xs)

  pub chain_even : ((x : X) → size x % 16 ≡ 0) → (xs : List X) → sum_by size xs % 16 ≡ 0
  chain_even even [] = refl
  chain_even even (x ∷ xs) = omega (arith, even x, chain_even even xs, sum_by-cons size x xs)

  -- each address is below the end
  pub place_below : (n a : ℕ) (xs : List X) (i : ℕ) → a + sum_by size xs < n → get_or (addresses_from size a xs) i 0 < n
  place_below n a [] i h = omega arith
  place_below n a (x ∷ xs) zero h = omega (arith, h, sum_by-cons size x xs)
  place_below n a (x ∷ xs) (suc i) h = place_below n (a + size x) xs i (omega (arith, h, sum_by-cons size x xs))

  -- what is read at each address
  pub each_value : {T : Type 0} (read : ℕ → Found T) (val : ℕ → X → T) (a : ℕ) (xs : List X)
      → AllAt size (λ at x. read at ≡ Ok (val at x)) a xs →
      map read (addresses_from size a xs) ≡ map Ok (values_at size val a xs)
  each_value read val a [] h = refl
  each_value read val a (x ∷ xs) h = ap₂ (λ r rs. r ∷ rs) h.0 (each_value read val (a + size x) xs h.1)

module _ {X : Type 0} (size : X → ℕ) (lay : ℕ → ℕ → X → List ℕ) (len : (a next : ℕ) (x : X)
    → length (lay a next x) ≡ size x) where
  pub length-chain : (a : ℕ) (xs : List X) → length (laid_chain size lay a xs) ≡ sum_by size xs
  unfolding laid_chain
  length-chain a [] = refl
  length-chain a (x ∷ xs) = omega (
    arith,
    sum_by-cons size x xs,
    length-append (lay a (head_of (a + size x) xs) x) (laid_chain size lay (a + size x) xs),
    len a (head_of (a + size x) xs) x,
    length-chain (a + size x) xs,
  )

  pub head_below : {m : Memory} (a : ℕ) (xs : List X) → Stands m a (laid_chain size lay a xs) → head_of a xs < 2 ^ 64
  head_below a [] s = omega arith
  head_below a (x ∷ xs) s = omega (arith, s.ends)

  -- each group leads to the next, so their addresses are a chain; and what each is holds of it at its address
  pub chain_back : (m : Memory) (P : X → Type 0) (Q : ℕ → X → Type 0) (next : ℕ → Found ℕ) → ((x : X) → size x % 16 ≡ 0)
      → ((a to : ℕ) (x : X) → a ≢ 0 → a % 16 ≡ 0 → to < 2 ^ 64 → P x → Stands m a (lay a to x)
      → (next a ≡ Ok to) × Q a x)
      → (a : ℕ) (xs : List X) → a ≢ 0 → a % 16 ≡ 0 → AllByRecursion P xs → Stands m a (laid_chain size lay a xs)
      → IsChain next (head_of a xs) (addresses_from size a xs) × AllAt size Q a xs
  unfolding laid_chain
  chain_back m P Q next even one a [] some mul all s = (chain_none next, tt)
  chain_back m P Q next even one a (x ∷ xs) some mul all s =
      let to = a + size x in
      let after = head_of to xs in
      let here : Stands m a (lay a after x) = stands_left (lay a after x) (laid_chain size lay to xs) s in
      let rest : Stands m to (laid_chain size lay to xs) = rw (len a after x) at
      (stands_right (lay a after x) (laid_chain size lay to xs) s) in
      let is = one a after x some mul (head_below to xs rest) all.0 here in
      let others = chain_back m P Q next even one to xs (omega arith) (omega (arith, even x)) all.1 rest in
      (chain_more next a after (addresses_from size to xs) some is.0 others.0, (is.1, others.1))
