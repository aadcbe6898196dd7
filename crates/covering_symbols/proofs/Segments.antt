-- The segments of a file by the places of their bytes in it.
use Rattle.std.proofs.Common.{◌≡◌, ℕ, suc, ◌+◌, ◌-◌, ◌^◌, ◌<◌, ◌≤◌, Bool, true, false, cond, List, [], ◌∷◌}
use Rattle.std.proofs.Common.{refl, sym, ◌∙◌, ap, subst, arith, Some, None}
use Rattle.std.specs.Prelude.{option_map, slice_get}
use Rattle.std.specs.List.{enumerate_from, find}
use Rattle.std.proofs.lemmas.Bool.Decides.{nat_tests}
use Rattle.elf64_core.specs.declared.segment.Segment.{Segment}
use Rattle.piece_table.specs.Overlays.{spans}
use Rattle.covering_symbols.specs.Covering.{holds_place}
use Rattle.covering_symbols.specs.SegmentTables.{range_of_segment}

abbrev pub Numbered : Type 0
Numbered = ℕ × Segment

-- a segment of a number holds a place
abbrev pub holds_at : ℕ → Numbered → Bool
holds_at place n = holds_place place n.1

-- below 2^64 - 1 a segment's bytes hold a place where its range does
pub held_spans : (place : ℕ) → place < 2 ^ 64 - 1 → (n : Numbered)
    → spans place (range_of_segment n).range ≡ holds_at place n
held_spans place h n = grind (arith, nat_tests)

pub less_nothing : (n : ℕ) → n ≡ n - 0
less_nothing n = omega arith

module _ (p : Segment → Bool) where
  abbrev passes : Numbered → Bool
  passes n = p n.1

  abbrev number : Numbered → ℕ
  number n = n.0

  -- the first one that passes, by whether the first one of all does
  more : (k : ℕ) (s : Segment) (segments : List Segment) (b : Bool) → p s ≡ b
      → find passes (enumerate_from k (s ∷ segments))
      ≡ cond b (Some (k, s)) (find passes (enumerate_from (k + 1) segments))
  more k s segments b is = ap (λ c. cond c (Some (k, s)) (find passes (enumerate_from (k + 1) segments))) is

  whole : (s : Segment) (segments : List Segment) (b : Bool) → p s ≡ b
      → find p (s ∷ segments) ≡ cond b (Some s) (find p segments)
  whole s segments b is = ap (λ c. cond c (Some s) (find p segments)) is

  abbrev AtNumber : ℕ → List Segment → ℕ → Type 0
  AtNumber k segments i = Some i ≡ option_map number (find passes (enumerate_from k segments))
      → (k ≤ i) × (slice_get segments (i - k) ≡ find p segments)

  at_more : (k : ℕ) (s : Segment) (segments : List Segment) (i : ℕ) → AtNumber (k + 1) segments i → (b : Bool) → p s ≡ b
      → AtNumber k (s ∷ segments) i
  at_more k s segments i rest true is e =
      let same : Some i ≡ Some k = e ∙ ap (option_map number) (more k s segments true is) in
      let eq : i ≡ k = cc in
      let zero_is : i - k ≡ 0 = omega (arith, eq) in
      (omega (arith, eq), ap (λ j. slice_get (s ∷ segments) j) zero_is ∙ sym (whole s segments true is))
  at_more k s segments i rest false is e =
      let later = rest (e ∙ ap (option_map number) (more k s segments false is)) in
      let le = later.0 in
      let next : i - k ≡ suc (i - (k + 1)) = omega (arith, le) in
      (omega (arith, le), ap (λ j. slice_get (s ∷ segments) j) next ∙ later.1 ∙ sym (whole s segments false is))

  -- the number of the first one that passes is its place in the list
  pub at_number : (k : ℕ) (segments : List Segment) (i : ℕ) → AtNumber k segments i
  at_number k [] i e = cc
  at_number k (s ∷ segments) i e = at_more k s segments i (at_number (k + 1) segments i) (p s) refl e

  abbrev AtNone : ℕ → List Segment → Type 0
  AtNone k segments = None ≡ option_map number (find passes (enumerate_from k segments)) → None ≡ find p segments

  none_more : (k : ℕ) (s : Segment) (segments : List Segment) → AtNone (k + 1) segments → (b : Bool) → p s ≡ b
      → AtNone k (s ∷ segments)
  none_more k s segments rest true is e =
      let no : None ≡ Some k = e ∙ ap (option_map number) (more k s segments true is) in cc
  none_more k s segments rest false is e =
      rest (e ∙ ap (option_map number) (more k s segments false is)) ∙ sym (whole s segments false is)

  -- where none passes by number, none does
  pub at_none : (k : ℕ) (segments : List Segment) → AtNone k segments
  at_none k [] e = refl
  at_none k (s ∷ segments) e = none_more k s segments (at_none (k + 1) segments) (p s) refl e

module _ {X : Type 0} (p : X → Bool) where
  abbrev Passes : List X → X → Type 0
  Passes xs x = Some x ≡ find p xs → p x ≡ true

  passes_more : (y : X) (xs : List X) (x : X) → Passes xs x → (b : Bool) → p y ≡ b → Passes (y ∷ xs) x
  passes_more y xs x rest true is e =
      let same : Some x ≡ Some y = e ∙ ap (λ b. cond b (Some y) (find p xs)) is in
      let eq : x ≡ y = cc in
      subst (λ z. p z ≡ true) (sym eq) is
  passes_more y xs x rest false is e = rest (e ∙ ap (λ b. cond b (Some y) (find p xs)) is)

  -- what is found passes
  pub found_passes : (xs : List X) (x : X) → Passes xs x
  found_passes [] x e = cc
  found_passes (y ∷ xs) x e = passes_more y xs x (found_passes xs x) (p y) refl e
