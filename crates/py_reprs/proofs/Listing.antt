-- What is read of one number after another.
use Rattle.std.proofs.Common.{◌≡◌, ℕ, suc, ◌+◌, ◌*◌, ◌<◌, ◌≤◌, List, [], ◌∷◌, ◌++◌, refl, sym, ap, ◌∙◌, arith}
use Rattle.process_memory.specs.Memory.{Memory}
use Rattle.process_memory.specs.Seen.{Reading, Seen}
use Rattle.process_memory.proofs.Reading.{reading_gives, reading_none, reading_then}
use Rattle.py_reprs.specs.Places.{firsts}

pub record Listing {T : Type 0} (f : Memory → ℕ → T) (cost : ℕ) (s0 s1 : Seen) (count number : ℕ) (out : List T)
    : Type 0 where
  pub within : number ≤ count
  pub spent : ℕ
  pub few : spent ≡ cost * number
  pub reading : Reading spent s0 s1 (λ m. out ≡ firsts (f m) number)

pub listing_init : {T : Type 0} (f : Memory → ℕ → T) (cost : ℕ) (s : Seen) (count : ℕ) (out : List T) → out ≡ []
    → Listing f cost s s count 0 out
unfolding firsts
listing_init f cost s count out e =
    record { within = omega arith; spent = 0; few = grind arith; reading = reading_none 0 s _ (λ m. e) }

more_cost : (cost number : ℕ) → cost * number + cost ≡ cost * (number + 1)
more_cost cost number = grind arith

le_cost : (cost number count : ℕ) → number ≤ count → cost * number ≤ cost * count
le_cost cost number count le = grind arith

firsts_more : {T : Type 0} (f : ℕ → T) (n : ℕ) → firsts f (n + 1) ≡ firsts f n ++ f n ∷ []
unfolding firsts
firsts_more f n = let one : n + 1 ≡ suc n = omega arith in rw one refl

module _ {T : Type 0} {f : Memory → ℕ → T} {cost : ℕ} {s0 s1 : Seen} {count number : ℕ} {out : List T} where
  pub listing_more : {s2 : Seen} {more : List T} (x : T) → Listing f cost s0 s1 count number out → number < count
      → Reading cost s1 s2 (λ m. x ≡ f m number) → more ≡ out ++ x ∷ [] → Listing f cost s0 s2 count (number + 1) more
  listing_more {more = more} x t lt r is = record {
    within = omega (arith, lt);
    spent = t.spent + cost;
    few = ap (λ n. n + cost) t.few ∙ more_cost cost number;
    reading = reading_then (λ m. more ≡ firsts (f m) (number + 1)) t.reading r
        (λ m e h. is ∙ ap (λ xs. xs ++ x ∷ []) e ∙ ap (λ y. firsts (f m) number ++ y ∷ []) h
        ∙ sym (firsts_more (f m) number));
  }

  pub listing_done : Listing f cost s0 s1 count number out → count ≤ number
      → Reading (cost * count) s0 s1 (λ m. out ≡ firsts (f m) count)
  listing_done t all =
      let same : number ≡ count = omega (arith, t.within) in
      reading_gives _ _ t.reading (rw t.few (le_cost cost number count t.within)) (λ m e. e
      ∙ ap (firsts (f m)) same)

  pub listing_lost : {n : ℕ} {s2 : Seen} {P : Memory → Type 0} → Listing f cost s0 s1 count number out
      → number < count
      → Reading n s1 s2 P → n ≤ cost
      → Reading (cost * count) s0 s2 P
  listing_lost {n = n} {P = P} t lt r few =
      let whole : cost * number + cost ≤ cost * count = rw (more_cost cost number)
      (le_cost cost (number + 1) count (omega (arith, lt))) in
      reading_gives _ _ (reading_then P t.reading r (λ m a b. b)) (omega (arith, whole, few, t.few)) (λ m h. h)
