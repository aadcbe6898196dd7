-- Whether one of some types is the one that all groups are based on.
use Rattle.std.proofs.Common.{◌≡◌, ℕ, ◌+◌, ◌*◌, ◌<◌, ◌≤◌, Bool, true, false, List, [], ◌∷◌, length, drop, get_or}
use Rattle.std.proofs.Common.{refl, sym}
use Rattle.std.proofs.Common.{ap, arith, ◌∙◌}
use Rattle.std.specs.List.{list_any}
use Rattle.std.proofs.lemmas.List.{drop_more, drop_all}
use Rattle.process_memory.specs.Memory.{Memory}
use Rattle.process_memory.specs.Seen.{Reading, Seen}
use Rattle.process_memory.proofs.Reading.{reading_then, reading_gives, reading_none}

-- none of the first ones is
pub record Searching (f : Memory → ℕ → Bool) (whole : Memory
    → Bool) (xs : List ℕ) (n : ℕ) (s0 s1 : Seen) (number : ℕ) : Type 0 where
  pub within : number ≤ length xs
  pub reading : Reading (n + 3 * number) s0 s1 (λ m. whole m ≡ list_any (f m) (drop number xs))

step : (f : Memory → ℕ → Bool) (xs : List ℕ) (m : Memory) (number : ℕ) → number < length xs
    → list_any (f m) (drop number xs) ≡ list_any (f m) (get_or xs number 0 ∷ drop (number + 1) xs)
step f xs m number some = ap (list_any (f m)) (drop_more xs number 0 some)

module _ {f : Memory → ℕ → Bool} {whole : Memory → Bool} {xs : List ℕ} {n : ℕ} {s0 s1 : Seen} where
  pub searching_init : Reading n s0 s1 (λ m. whole m ≡ list_any (f m) xs) → Searching f whole xs n s0 s1 0
  searching_init r = record { within = omega arith; reading = reading_gives _ _ r (omega arith) (λ m h. h) }

  pub searching_more : {s2 : Seen} {number : ℕ} (x : ℕ) → Searching f whole xs n s0 s1 number → number < length xs
      → x ≡ get_or xs number 0
      → Reading 3 s1 s2 (λ m. false ≡ f m x) → Searching f whole xs n s0 s2 (number + 1)
  searching_more {number = number} x t some is r = record {
    within = omega arith;
    reading = reading_gives _ _ (reading_then (λ m. whole m ≡ list_any (f m) (drop (number + 1) xs)) t.reading r
        (λ m e no. e ∙ step f xs m number some ∙ rw (← is, ← no) refl)) (omega arith) (λ m h. h);
  }

  pub searching_found : {s2 : Seen} {number : ℕ} (x : ℕ) → Searching f whole xs n s0 s1 number → number < length xs
      → x ≡ get_or xs number 0
      → Reading 3 s1 s2 (λ m. true ≡ f m x) → Reading (n + 3 * length xs) s0 s2 (λ m. true ≡ whole m)
  searching_found {number = number} x t some is r = reading_gives _ _ (reading_then (λ m. true ≡ whole m) t.reading r
      (λ m e yes. sym (e ∙ step f xs m number some ∙ rw (← is, ← yes) refl))) (omega arith) (λ m h. h)

  pub searching_done : {number : ℕ} → Searching f whole xs n s0 s1 number → length xs ≤ number
      → Reading (n + 3 * length xs) s0 s1 (λ m. false ≡ whole m)
  searching_done {number = number} t all = reading_gives _ _ t.reading (omega (arith, t.within))
      (λ m e. sym (e ∙ ap (list_any (f m)) (drop_all number xs all)))

  pub searching_lost : {k : ℕ} {s2 : Seen} {number : ℕ} {P : Memory → Type 0} → Searching f whole xs n s0 s1 number
      → number < length xs → Reading k s1 s2 P → k ≤ 3
      → Reading (n + 3 * length xs) s0 s2 P
  searching_lost {P = P} t some r few = reading_gives _ _ (reading_then P t.reading r (λ m a b. b)) (omega arith)
      (λ m h. h)
