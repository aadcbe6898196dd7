-- The first byte that passes a test.
use Rattle.std.proofs.Common.{◌≡◌, ℕ, ◌+◌, ◌-◌, ◌<◌, true, false, Bool, cond, List, length, take, drop, Some, None}
use Rattle.std.proofs.Common.{refl, ap, ◌∙◌, arith, length-drop, ◌^◌, lit<}
use Rattle.std.proofs.Math.Nat.{pow-le-pow_right}
use Rattle.std.proofs.lemmas.List.{take_all}
use Rattle.std.specs.List.{position, position_or_len}
use Rattle.maps_text.specs.Fields.{has_any}

none_cases : (b : Bool) (n : ℕ) → None ≡ cond b (Some n) None → b ≡ false
none_cases true n is = cc
none_cases false n is = refl

some_cases : (b : Bool) (at n : ℕ) → Some at ≡ cond b (Some n) None → (b ≡ true) × (at ≡ n)
some_cases true at n is = (refl, cc)
some_cases false at n is = cc

pub no_position : (p : ℕ → Bool) (s : List ℕ) → None ≡ position p s → has_any p s ≡ false
no_position p s is = none_cases (has_any p s) (position_or_len p s) is

pub some_position : (p : ℕ → Bool) (s : List ℕ) (at : ℕ) → Some at ≡ position p s
    → (has_any p s ≡ true) × (at ≡ position_or_len p s)
some_position p s at is = some_cases (has_any p s) at (position_or_len p s) is

pub rest_of : (s : List ℕ) (at n : ℕ) → at ≡ n → take (length s - (at + 1)) (drop (at + 1) s) ≡ drop (n + 1) s
rest_of s at n is =
    take_all (length s - (at + 1)) (drop (at + 1) s) (omega (arith, length-drop (at + 1) s)) ∙ ap (λ k. drop (k + 1) s) is

pub below_power : (n i : ℕ) → n < 16 ^ i → i < 16 → n < 16 ^ 15
below_power n i small few = omega (arith, small, pow-le-pow_right {n = 16} (lit< tt) {i = i} {j = 15} (omega arith))
