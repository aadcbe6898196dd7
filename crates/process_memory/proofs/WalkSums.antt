-- Walks as a whole: what holds of each member's cost holds of the sums along a walk, and a whole chain within its
-- limits, each of whose members can be read, is what the walk answers.
use Rattle.std.proofs.Common.{◌≡◌, ◌≢◌, ℕ, zero, suc, ◌+◌, ◌*◌, ◌≤◌, List, [], ◌∷◌, length, map, refl, sym, ◌∙◌, ap}
use Rattle.std.proofs.Common.{arith}
use Rattle.std.proofs.Math.Nat.{mul-add}
use Rattle.std.specs.Prelude.{Ok, Err, IsOkAnd, ⊤}
use Rattle.process_memory.specs.Memory.{Found, Fault}
use Rattle.process_memory.specs.Walk.{IsChain, Step, cost_next, walk_at, walk_cost}

module _ {S T : Type 0} (step : S → ℕ → Found (Step S T)) where
  -- sums along one walk keep what holds of each member
  pub walk_sum : (n : ℕ) (cost f g : S → ℕ → ℕ) → ((s : S) (a : ℕ) → cost s a ≤ n * f s a + g s a) → (k : ℕ) (s : S) (a : ℕ)
      → walk_cost step cost k s a ≤ n * walk_cost step f k s a + walk_cost step g k s a
  unfolding walk_cost
  walk_sum n cost f g each k s zero = omega arith
  walk_sum n cost f g each zero s (suc a) = omega arith
  walk_sum n cost f g each (suc k) s (suc a) =
      let rest : cost_next (step s (suc a)) (λ t i. walk_cost step cost k t i) ≤ n * cost_next (step s (suc a)) (λ t i. walk_cost step f k t i) + cost_next (step s (suc a)) (λ t i. walk_cost step g k t i) =
      elim (step s (suc a)) as (λ v. cost_next v (λ t i. walk_cost step cost k t i) ≤ n * cost_next v (λ t i. walk_cost step f k t i) + cost_next v (λ t i. walk_cost step g k t i))
      [ Ok x ↦ walk_sum n cost f g each k x.state x.next | Err q ↦ omega arith ] in
      omega (arith, each s (suc a), rest, mul-add n (f s (suc a)) (cost_next (step s (suc a)) (λ t i. walk_cost step f k t i)))

  -- members that cost nothing
  pub walk_none : (cost : S → ℕ → ℕ) → ((s : S) (a : ℕ) → cost s a ≡ 0) → (k : ℕ) (s : S) (a : ℕ) → walk_cost step cost k s a ≡ 0
  unfolding walk_cost
  walk_none cost each k s zero = refl
  walk_none cost each zero s (suc a) = refl
  walk_none cost each (suc k) s (suc a) =
      let rest : cost_next (step s (suc a)) (λ t n. walk_cost step cost k t n) ≡ 0 =
      elim (step s (suc a)) as (λ v. cost_next v (λ t n. walk_cost step cost k t n) ≡ 0)
      [ Ok x ↦ walk_none cost each k x.state x.next | Err q ↦ refl ] in
      omega (arith, each s (suc a), rest)

  -- members that cost at most one each
  pub walk_ones : (cost : S → ℕ → ℕ) → ((s : S) (a : ℕ) → cost s a ≤ 1) → (k : ℕ) (s : S) (a : ℕ) → walk_cost step cost k s a ≤ k
  unfolding walk_cost
  walk_ones cost each k s zero = omega arith
  walk_ones cost each zero s (suc a) = omega arith
  walk_ones cost each (suc k) s (suc a) =
      let rest : cost_next (step s (suc a)) (λ t n. walk_cost step cost k t n) ≤ k =
      elim (step s (suc a)) as (λ v. cost_next v (λ t n. walk_cost step cost k t n) ≤ k)
      [ Ok x ↦ walk_ones cost each k x.state x.next | Err q ↦ omega arith ] in
      omega (arith, each s (suc a), rest)

-- a value, where it is there and passes
ok_and : {T : Type 0} (d : Found T) (P : T → Type 0) → IsOkAnd d P → (x : T) × (d ≡ Ok x) × P x
ok_and (Ok x) P h = (x, refl, h)
ok_and (Err e) P h = absurd h

module _ {S T : Type 0} (over : Fault) (step : S → ℕ → Found (Step S T)) (next : ℕ → Found ℕ) (part : ℕ → Found T) (after : S → T → S) (Fits : S → T → Type 0)
    (goes : (s : S) (a n : ℕ) (p : T) → next a ≡ Ok n → part a ≡ Ok p → Fits s p → step s a ≡ Ok (record { next = n; state = after s p; part = p })) where
  -- each of the parts fits where it stands
  abbrev pub FitsAll : S → List T → Type 0
  FitsAll s [] = ⊤
  FitsAll s (p ∷ ps) = Fits s p × FitsAll (after s p) ps

  walk_goes : (k : ℕ) (s : S) (at : ℕ) (x : Step S T) (ps : List T) → at ≢ 0 → step s at ≡ Ok x → walk_at over step k x.state x.next ≡ Ok ps
      → walk_at over step (suc k) s at ≡ Ok (x.part ∷ ps)
  unfolding walk_at
  walk_goes k s zero x ps some e rest = absurd (some refl)
  walk_goes k s (suc a) x ps some e rest = rw (e, rest) refl

  walk_ends : (k : ℕ) (s : S) (at : ℕ) → at ≡ 0 → walk_at over step k s at ≡ Ok []
  unfolding walk_at
  walk_ends k s at is = rw is refl

  -- the converse of `walk_chain`: a whole chain within the limit, each of whose members has its part, is the answer
  pub walk_whole : (k : ℕ) (s : S) (head : ℕ) (members : List ℕ) (parts : List T) → IsChain next head members → map part members ≡ map Ok parts
      → length members ≤ k → FitsAll s parts → walk_at over step k s head ≡ Ok parts
  unfolding IsChain
  walk_whole k s head [] [] chain each le fits = walk_ends k s head chain
  walk_whole k s head [] (p ∷ ps) chain each le fits = absurd (cc)
  walk_whole k s head (x ∷ xs) [] chain each le fits = absurd (cc)
  walk_whole zero s head (x ∷ xs) (p ∷ ps) chain each le fits = absurd (omega (arith, le))
  walk_whole (suc k) s head (x ∷ xs) (p ∷ ps) chain each le fits =
      let here : part x ≡ Ok p = cc in
      let others : map part xs ≡ map Ok ps = cc in
      let n = ok_and (next x) (λ n. IsChain next n xs) chain.2 in
      let one : step s x ≡ Ok (record { next = n.0; state = after s p; part = p }) = goes s x n.0 p n.1 here fits.0 in
      let two : step s head ≡ Ok (record { next = n.0; state = after s p; part = p }) = ap (step s) (sym chain.1) ∙ one in
      walk_goes k s head (record { next = n.0; state = after s p; part = p }) ps chain.0 two (walk_whole k (after s p) n.0 xs ps n.2 others (omega (arith, le)) fits.1)
