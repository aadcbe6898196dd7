-- Entries are ordered in one way.
use Rattle.std.proofs.Common.{◌≡◌, ◌+◌, ℕ, zero, suc, Bool, true, false, not, ◌&&◌, ◌||◌, nat_eq, nat_lt, List, [], ◌∷◌}
use Rattle.std.proofs.Common.{get_or, filter, refl, sym, ap, ◌∙◌, arith, inl, inr, zero-le}
use Rattle.std.proofs.lemmas.Bool.{cond-true, cond-false, cases_Bool}
use Rattle.std.proofs.lemmas.Bool.Decides.{nat_tests}
use Rattle.std.specs.List.Sorted.{IsSortedBy, ties}
use Rattle.maps_text.specs.declared.entry.MapsEntry.{MapsEntry}
use Rattle.core_merge.specs.CoreEntries.{AreOrdered, stands_before}

abbrev before : ℕ → ℕ → ℕ → ℕ → Bool
before a b c d = nat_lt a c || (nat_eq a c && nat_lt b d)

abbrev level : ℕ → ℕ → ℕ → ℕ → Bool
level a b c d = not (before a b c d) && not (before c d a b)

level_same : (a b c d : ℕ) → level a b c d ≡ true → (a ≡ c) × (b ≡ d)
level_same a b c d h = (grind (arith, nat_tests), grind (arith, nat_tests))

level_of : (a b c d : ℕ) → before a b c d ≡ false → before c d a b ≡ false → level a b c d ≡ true
level_of a b c d h k = grind (arith, nat_tests)

level_self : (a b : ℕ) → level a b a b ≡ true
level_self a b = grind (arith, nat_tests)

not_before_itself : (a b : ℕ) → before a b a b ≡ false
not_before_itself a b = grind (arith, nat_tests)

through : (a b c d e f : ℕ) → before c d a b ≡ false → before e f c d ≡ false → before e f a b ≡ false
through a b c d e f h k = grind (arith, nat_tests)

-- ---- entries

abbrev alike : MapsEntry → MapsEntry → Bool
alike = ties stands_before

abbrev AreBehind : MapsEntry → List MapsEntry → Type 0
AreBehind x [] = Unit {0}
AreBehind x (y ∷ ys) = (stands_before y x ≡ false) × AreBehind x ys

abbrev Rises : List MapsEntry → Type 0
Rises [] = Unit {0}
Rises (y ∷ ys) = AreBehind y ys × Rises ys

behind_through : (x z : MapsEntry) (ys : List MapsEntry) → stands_before z x ≡ false → AreBehind z ys → AreBehind x ys
behind_through x z [] le h = tt
behind_through x z (y ∷ ys) le h = (
  through x.range.start x.range.end z.range.start z.range.end y.range.start y.range.end le h.0,
  behind_through x z ys le h.1,
)

rises : (ys : List MapsEntry) → IsSortedBy stands_before ys → Rises ys
rises [] h = tt
rises (y ∷ []) h = (tt, tt)
rises (y ∷ z ∷ zs) h =
    let further : (k : ℕ) → suc (k + 1) ≡ suc k + 1 = λ k. omega arith in
    let rest = rises (z ∷ zs) (λ k d le lt.
    ap (λ n. stands_before (get_or (y ∷ z ∷ zs) n d) (get_or (z ∷ zs) k d)) (further k) ∙ h (suc k) d zero-le (omega (arith, lt))) in
    let first = h zero y zero-le (omega arith) in
    ((first, behind_through y z zs first rest.0), rest)

filter-kept : (p : MapsEntry → Bool) (y : MapsEntry) (ys : List MapsEntry) → p y ≡ true → filter p (y ∷ ys) ≡ y ∷ filter p ys
filter-kept p y ys h = cond-true _ _ _ h

filter-dropped : (p : MapsEntry → Bool) (y : MapsEntry) (ys : List MapsEntry) → p y ≡ false → filter p (y ∷ ys) ≡ filter p ys
filter-dropped p y ys h = cond-false _ _ _ h

alike_self : (x : MapsEntry) → alike x x ≡ true
alike_self x = level_self x.range.start x.range.end

-- one like x is among them, so x doesn't stand before what they are behind
found : (n x : MapsEntry) (ys : List MapsEntry) (w : MapsEntry) (ws : List MapsEntry) → AreBehind n ys → filter (alike x) ys ≡ w ∷ ws
    → stands_before x n ≡ false
found n x [] w ws h e = cc
found n x (y ∷ ys) w ws h e =
    elim (cases_Bool (alike x y)) [
      | inl with ↦
          let same = level_same x.range.start x.range.end y.range.start y.range.end with in
          (λ i. before (same.0 i) (same.1 i) n.range.start n.range.end) ∙ h.0
      | inr without ↦ found n x ys w ws h.1 (sym (filter-dropped (alike x) y ys without) ∙ e)
    ]

same_lists : (ys zs : List MapsEntry) → Rises ys → Rises zs → ((x : MapsEntry) → filter (alike x) ys ≡ filter (alike x) zs) → ys ≡ zs
same_lists [] [] left right same = refl
same_lists [] (z ∷ zs) left right same =
    let clash = same z ∙ filter-kept (alike z) z zs (alike_self z) in cc
same_lists (y ∷ ys) [] left right same =
    let clash = sym (same y) ∙ filter-kept (alike y) y ys (alike_self y) in cc
same_lists (y ∷ ys) (z ∷ zs) left right same =
    let at_y = filter-kept (alike y) y ys (alike_self y) in
    let at_z = filter-kept (alike z) z zs (alike_self z) in
    let up = found z y (z ∷ zs) y _ (not_before_itself z.range.start z.range.end, right.0) (sym (same y) ∙ at_y) in
    let down = found y z (y ∷ ys) z _ (not_before_itself y.range.start y.range.end, left.0) (same z ∙ at_z) in
    let heads = sym at_y ∙ same y ∙ filter-kept (alike y) z zs
    (level_of y.range.start y.range.end z.range.start z.range.end up down) in
    let head : y ≡ z = cc in
    let tails : (x : MapsEntry) → filter (alike x) ys ≡ filter (alike x) zs =
    λ x. elim (cases_Bool (alike x y)) [
      | inl with ↦
          let both = sym (filter-kept (alike x) y ys with) ∙ same x ∙ filter-kept (alike x) z zs (ap (alike x) (sym head) ∙ with) in cc
      | inr without ↦
          sym (filter-dropped (alike x) y ys without) ∙ same x ∙ filter-dropped (alike x) z zs (ap (alike x) (sym head) ∙ without)
    ] in
    ap (λ w. w ∷ ys) head ∙ ap (λ l. z ∷ l) (same_lists ys zs left.1 right.1 tails)

pub ordered_once : (made ys zs : List MapsEntry) → AreOrdered made ys → AreOrdered made zs → ys ≡ zs
ordered_once made ys zs h k = same_lists ys zs (rises ys h.sorted) (rises zs k.sorted) (λ x. h.stable x ∙ sym (k.stable x))
