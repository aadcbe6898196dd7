-- The last part of a text.
use Rattle.std.proofs.Common.{◌≡◌, ℕ, zero, suc, ◌+◌, ◌-◌, ◌<◌, ◌≤◌, true, false, List, length, get_or, ap, subst}
use Rattle.std.proofs.Common.{arith}
use Rattle.std.specs.Prelude.{◌==◌, not}
use Rattle.std.specs.List.{suffix_len}
use Rattle.std.specs.Str.{IsUtf8, IsCharBoundary}
use Rattle.std.proofs.lemmas.Bool.Decides.{nat_tests}
use Rattle.std.proofs.lemmas.List.Sums.{suffix_len_is}
use Rattle.std.proofs.lemmas.Str.{IsCharBoundary-start, IsCharBoundary-after_ascii}

pub start_is : (text : List ℕ) (mark start : ℕ) → start ≤ length text → ((k : ℕ) → start ≤ k → k < length text → (get_or text k 0 == mark) ≡ false)
    → (0 < start → (get_or text (start - 1) 0 == mark) ≡ true) → start ≡ length text - suffix_len (λ c. not (c == mark)) text
start_is text mark start le after found =
    let len : suffix_len (λ c. not (c == mark)) text ≡ length text - start =
    suffix_len_is (λ c. not (c == mark)) text start 0 le (λ k a b. ap not (after k a b)) (λ h. ap not (found h)) in
    omega (arith, len)

low_is : (c mark : ℕ) → mark < 128 → (c == mark) ≡ true → c < 128
low_is c mark low is = grind (arith, nat_tests, is, low)

-- a text may be cut behind an ASCII character, and at its start
pub start_border : (text : List ℕ) (mark start : ℕ) → IsUtf8 text → mark < 128 → start ≤ length text
    → (0 < start → (get_or text (start - 1) 0 == mark) ≡ true) → IsCharBoundary text start
start_border text mark zero utf8 low le found = IsCharBoundary-start text utf8
start_border text mark (suc n) utf8 low le found =
    let before : suc n - 1 ≡ n = omega arith in
    let is : (get_or text n 0 == mark) ≡ true = subst (λ k. (get_or text k 0 == mark) ≡ true) before (found (omega arith)) in
    let next : n + 1 ≡ suc n = omega arith in
    subst (IsCharBoundary text) next (IsCharBoundary-after_ascii text n utf8 (omega (arith, le)) (low_is (get_or text n 0) mark low is))
