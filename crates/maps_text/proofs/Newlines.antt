-- The first line of a text.
use Rattle.std.proofs.Common.{◌≡◌, ℕ, suc, ◌+◌, ◌<◌, ◌≤◌, true, false, Bool, cond, not, List, [], ◌∷◌, length, take}
use Rattle.std.proofs.Common.{drop, refl, sym, ap, ◌∙◌, arith}
use Rattle.std.specs.Prelude.{if◌then◌else◌}
use Rattle.std.specs.List.{onto_first, position_or_len, before_first, after_first}
use Rattle.std.proofs.lemmas.Bool.Decides.{nat_tests}
use Rattle.maps_text.specs.Fields.{has_any}
use Rattle.maps_text.specs.Texts.{is_newline, lines_of}

first_step : (b : Bool) (x q : ℕ) (xs : List ℕ)
    → (q < length xs → lines_of xs ≡ take q xs ∷ lines_of (drop (q + 1) xs))
    → cond (not b) (1 + q) 0 < length (x ∷ xs)
    → (if b then [] ∷ lines_of xs else onto_first x (lines_of xs))
    ≡ take (cond (not b) (1 + q) 0) (x ∷ xs) ∷ lines_of (drop (cond (not b) (1 + q) 0 + 1) (x ∷ xs))
first_step true x q xs others lt = refl
first_step false x q xs others lt =
    let front : 1 + q ≡ suc q = omega arith in
    let back : 1 + q + 1 ≡ suc (q + 1) = omega arith in
    ap (onto_first x) (others (omega arith))
    ∙ sym (ap (λ m. take m (x ∷ xs) ∷ lines_of (drop (1 + q + 1) (x ∷ xs))) front
    ∙ ap (λ n. take (suc q) (x ∷ xs) ∷ lines_of (drop n (x ∷ xs))) back)

lines_first : (s : List ℕ) → position_or_len is_newline s < length s
    → lines_of s ≡ before_first is_newline s ∷ lines_of (after_first is_newline s)
lines_first [] lt = absurd (omega (arith, lt))
lines_first (x ∷ xs) lt = first_step (is_newline x) x (position_or_len is_newline xs) xs (lines_first xs) lt

last_step : (b : Bool) (x q : ℕ) (xs : List ℕ) → (0 < length xs → length xs ≤ q → lines_of xs ≡ xs ∷ [])
    → length (x ∷ xs) ≤ cond (not b) (1 + q) 0
    → (if b then [] ∷ lines_of xs else onto_first x (lines_of xs)) ≡ (x ∷ xs) ∷ []
last_step true x q xs others le = absurd (omega (arith, le))
last_step false x q [] others le = refl
last_step false x q (y ∷ ys) others le = ap (onto_first x) (others (omega arith) (omega arith))

lines_last : (s : List ℕ) → 0 < length s → length s ≤ position_or_len is_newline s → lines_of s ≡ s ∷ []
lines_last [] some le = absurd (omega (arith, some))
lines_last (x ∷ xs) some le = last_step (is_newline x) x (position_or_len is_newline xs) xs (lines_last xs) le

pub line_before : (s : List ℕ) → has_any is_newline s ≡ true
    → lines_of s ≡ before_first is_newline s ∷ lines_of (after_first is_newline s)
line_before s has =
    let lt : position_or_len is_newline s < length s = grind (arith, nat_tests, has) in
    lines_first s lt

pub line_alone : (s : List ℕ) → 0 < length s → has_any is_newline s ≡ false → lines_of s ≡ s ∷ []
line_alone s some none =
    let le : length s ≤ position_or_len is_newline s = grind (arith, nat_tests, none) in
    lines_last s some le
