-- What is read of one thing after another.
use Rattle.std.proofs.Common.{◌≡◌, ℕ, ◌+◌, ◌*◌, ◌<◌, ◌≤◌, List, [], ◌∷◌, ◌++◌, length, map, take, get_or, sym, ap}
use Rattle.std.proofs.Common.{◌∙◌, arith}
use Rattle.std.proofs.lemmas.List.{map-append, take_all, take_more}
use Rattle.process_memory.specs.Memory.{Memory}
use Rattle.process_memory.specs.Seen.{Reading, Seen}
use Rattle.process_memory.proofs.Reading.{reading_gives, reading_none, reading_then}

pub record Mapping {A T : Type 0} (f : Memory → A → T) (cost : ℕ) (s0 s1 : Seen) (all : List A) (number : ℕ)
    (out : List T) : Type 0 where
  pub within : number ≤ length all
  pub spent : ℕ
  pub few : spent ≡ cost * number
  pub reading : Reading spent s0 s1 (λ m. out ≡ map (f m) (take number all))

pub mapping_init : {A T : Type 0} (f : Memory → A → T) (cost : ℕ) (s : Seen) (all : List A) (out : List T) → out ≡ []
    → Mapping f cost s s all 0 out
mapping_init f cost s all out e =
    record { within = omega arith; spent = 0; few = grind arith; reading = reading_none 0 s _ (λ m. e) }

more_cost : (cost number : ℕ) → cost * number + cost ≡ cost * (number + 1)
more_cost cost number = grind arith

le_cost : (cost number count : ℕ) → number ≤ count → cost * number ≤ count * cost
le_cost cost number count le = grind arith

module _ {A T : Type 0} {f : Memory → A → T} {cost : ℕ} {s0 s1 : Seen} {all : List A} {number : ℕ} {out : List T} where
  pub mapping_more : {s2 : Seen} {more : List T} (x : T) (d : A) → Mapping f cost s0 s1 all number out
      → number < length all → Reading cost s1 s2 (λ m. x ≡ f m (get_or all number d)) → more ≡ out ++ x ∷ []
      → Mapping f cost s0 s2 all (number + 1) more
  mapping_more {more = more} x d t lt r is = record {
    within = omega (arith, lt);
    spent = t.spent + cost;
    few = ap (λ n. n + cost) t.few ∙ more_cost cost number;
    reading = reading_then (λ m. more ≡ map (f m) (take (number + 1) all)) t.reading r (λ m e h. mapped m x d lt is e h);
  }
    where
      mapped : {more : List T} (m : Memory) (x : T) (d : A) → number < length all → more ≡ out ++ x ∷ []
          → out ≡ map (f m) (take number all) → x ≡ f m (get_or all number d)
          → more ≡ map (f m) (take (number + 1) all)
      mapped m x d lt is e h =
          is ∙ ap (λ xs. xs ++ x ∷ []) e ∙ ap (λ y. map (f m) (take number all) ++ y ∷ []) h
          ∙ sym (map-append (f m) (take number all) (get_or all number d ∷ []))
          ∙ sym (ap (map (f m)) (take_more all number d lt))

  pub mapping_done : Mapping f cost s0 s1 all number out → length all ≤ number
      → Reading (length all * cost) s0 s1 (λ m. out ≡ map (f m) all)
  mapping_done t full =
      reading_gives _ _ t.reading (rw t.few (le_cost cost number (length all) t.within)) (λ m e. e
      ∙ ap (map (f m)) (take_all number all full))

  pub mapping_lost : {s2 : Seen} {P : Memory → Type 0} → Mapping f cost s0 s1 all number out → number < length all
      → Reading cost s1 s2 P → Reading (length all * cost) s0 s2 P
  mapping_lost {P = P} t lt r =
      let whole : cost * (number + 1) ≤ length all * cost = le_cost cost (number + 1) (length all) (omega (arith, lt)) in
      let sum = more_cost cost number in
      reading_gives _ _ (reading_then P t.reading r (λ m a b. b)) (omega (arith, whole, sum, t.few)) (λ m h. h)
