-- What is read of each of some things, one after another.
use Rattle.std.proofs.Common.{◌≡◌, ℕ, ◌+◌, ◌*◌, ◌<◌, ◌≤◌, List, [], ◌∷◌, ◌++◌, length, map, take, get_or, refl, sym}
use Rattle.std.proofs.Common.{ap, ◌∙◌, arith}
use Rattle.std.proofs.lemmas.Grind.{take_at_read}
use Rattle.std.proofs.lemmas.List.{map-append, take_all}
use Rattle.process_memory.specs.Memory.{Memory}
use Rattle.process_memory.specs.Seen.{Reading, Seen}
use Rattle.process_memory.proofs.Reading.{reading_gives, reading_none, reading_then}

pub record Eaching {A X D : Type 0} (view : X → D) (f : Memory → A
    → D) (cost : ℕ) (xs : List A) (s0 s1 : Seen) (out : List X)
    (number : ℕ) : Type 0 where
  pub within : number ≤ length xs
  pub spent : ℕ
  pub few : spent ≡ cost * number
  pub reading : Reading spent s0 s1 (λ m. map view out ≡ map (f m) (take number xs))

pub eaching_init : {A X D : Type 0} (view : X → D) (f : Memory → A
    → D) (cost : ℕ) (xs : List A) (s : Seen) (out : List X) → out ≡ []
    → Eaching view f cost xs s s out 0
eaching_init view f cost xs s out e = record {
  within = omega arith;
  spent = 0;
  few = grind arith;
  reading
      = reading_none 0 s _ (λ m. ap (map view) e);
}

more_cost : (cost number : ℕ) → cost * number + cost ≡ cost * (number + 1)
more_cost cost number = grind arith

le_cost : (cost number count : ℕ) → number ≤ count → cost * number ≤ cost * count
le_cost cost number count le = grind arith

module _ {A X D : Type 0} {view : X → D} {f : Memory → A
    → D} {cost : ℕ} {xs : List A} {s0 s1 : Seen} {out : List X} {number : ℕ} where
  pub eaching_more : {s2 : Seen} {more : List X} (x : X) (a d : A) → Eaching view f cost xs s0 s1 out number
      → number < length xs → a ≡ get_or xs number d
      → Reading cost s1 s2 (λ m. view x ≡ f m a) → more ≡ out ++ x ∷ [] → Eaching view f cost xs s0 s2 more (number + 1)
  eaching_more {more = more} x a d t lt at r is = record {
    within = omega (arith, lt);
    spent = t.spent + cost;
    few = ap (λ n. n + cost) t.few ∙ more_cost cost number;
    reading = reading_then (λ m. map view more ≡ map (f m) (take (number + 1) xs)) t.reading r
        (λ m e h. ap (map view) is ∙ map-append view out (x ∷ []) ∙ ap (λ t. t ++ view x ∷ []) e
        ∙ ap (λ d. map (f m) (take number xs) ++ d ∷ []) (h ∙ ap (f m) at)
        ∙ sym (map-append (f m) (take number xs) (get_or xs number d ∷ []))
        ∙ ap (map (f m)) (sym (take_at_read xs number d lt).1));
  }

  pub eaching_done : Eaching view f cost xs s0 s1 out number → length xs ≤ number
      → Reading (cost * length xs) s0 s1 (λ m. map view out ≡ map (f m) xs)
  eaching_done t all = reading_gives _ _ t.reading (rw t.few (le_cost cost number (length xs) t.within)) (λ m e. e
      ∙ ap (map (f m)) (take_all number xs all))

  pub eaching_lost : {n : ℕ} {s2 : Seen} {P : Memory → Type 0} → Eaching view f cost xs s0 s1 out number
      → number < length xs → Reading n s1 s2 P → n ≤ cost
      → Reading (cost * length xs) s0 s2 P
  eaching_lost {n = n} {P = P} t lt r few =
      let whole : cost * number + cost ≤ cost * length xs = rw (more_cost cost number)
      (le_cost cost (number + 1) (length xs) (omega (arith, lt))) in
      reading_gives _ _ (reading_then P t.reading r (λ m a b. b)) (omega (arith, whole, few, t.few)) (λ m h. h)
