-- Numbers that begin some bytes, one byte at a time.
use Rattle.std.proofs.Common.{◌≡◌, ℕ, zero, suc, ◌+◌, ◌-◌, ◌*◌, ◌^◌, ◌<◌, ◌≤◌, ◌≢◌, List, [], ◌∷◌, length, drop}
use Rattle.std.proofs.Common.{get_or, ltb, false, refl, ap, arith, ℤ, pos, neg_ℤ, ◌+ℤ◌, ◌*ℤ◌, ◌≤ℤ◌, ◌<ℤ◌}
use Rattle.std.specs.Prelude.{Result, Ok}
use Rattle.std.proofs.lemmas.Bool.{le-ltb}
use Rattle.std.proofs.Math.Nat.{pow-succ', pow-le-pow_right}
use Rattle.std.proofs.lemmas.Int.{ints}
use Rattle.frame_rows.specs.declared.number.SignedNumber.{SignedNumber}
use Rattle.frame_rows.specs.declared.number.Flaw.{Flaw}
use Rattle.frame_rows.specs.Numbers.{signed_within, signed_more, read_then}

-- ---- powers

pub seven_more : (most low high : ℕ) → most ≢ 0 → low < 128 → high < 128 ^ (most - 1) → low + 128 * high < 128 ^ most
seven_more zero low high n l h = absurd (n refl)
seven_more (suc most) low high n l h =
    let fewer : suc most - 1 ≡ most = omega arith in
    let below : high < 128 ^ most = rw fewer at h in
    rw pow-succ' (omega arith)

pub eight_more : (size low high : ℕ) → size ≢ 0 → low < 256 → high < 256 ^ (size - 1) → low + 256 * high < 256 ^ size
eight_more zero low high n l h = absurd (n refl)
eight_more (suc size) low high n l h =
    let fewer : suc size - 1 ≡ size = omega arith in
    let below : high < 256 ^ size = rw fewer at h in
    rw pow-succ' (omega arith)

pub seven_bits : (most : ℕ) → most ≢ 0 → 128 ≤ 128 ^ most
seven_bits most n = pow-le-pow_right (omega arith) {i = 1} {j = most} (omega arith)

pub at_most_63 : (most : ℕ) → most ≤ 9 → 128 ^ most ≤ 128 ^ 9
at_most_63 most h = pow-le-pow_right (omega arith) h

pub at_most_64 : (size : ℕ) → size ≤ 8 → 256 ^ size ≤ 256 ^ 8
at_most_64 size h = pow-le-pow_right (omega arith) h

pub low_more : (most low : ℕ) (high : ℤ) → most ≢ 0 → neg_ℤ (pos (128 ^ (most - 1))) ≤ℤ high
    → neg_ℤ (pos (128 ^ most)) ≤ℤ (pos low +ℤ (pos 128 *ℤ high))
low_more zero low high n h = absurd (n refl)
low_more (suc most) low high n h =
    let fewer : suc most - 1 ≡ most = omega arith in
    let above : neg_ℤ (pos (128 ^ most)) ≤ℤ high = rw fewer at h in
    rw pow-succ' (omega (arith, ints, above))

pub high_more : (most low : ℕ) (high : ℤ) → most ≢ 0 → low < 128 → high <ℤ pos (128 ^ (most - 1))
    → (pos low +ℤ (pos 128 *ℤ high)) <ℤ pos (128 ^ most)
high_more zero low high n l h = absurd (n refl)
high_more (suc most) low high n l h =
    let fewer : suc most - 1 ≡ most = omega arith in
    let below : high <ℤ pos (128 ^ most) = rw fewer at h in
    rw pow-succ' (omega (arith, ints, below))

-- ---- one byte more

pub signed_next : (most : ℕ) (bytes : List ℕ) (high : Result SignedNumber Flaw) → most ≢ 0 → length bytes ≢ 0
    → 128 ≤ get_or bytes 0 0
    → signed_within (most - 1) (drop 1 bytes) ≡ high → signed_within most bytes
    ≡ read_then high (signed_more (get_or bytes 0 0))
signed_next zero bytes high n l e is = absurd (n refl)
signed_next (suc most) [] high n l e is = absurd (l refl)
signed_next (suc most) (b ∷ bytes) high n l e is =
    let six : ltb b 64 ≡ false = le-ltb b 64 (omega arith) in
    let seven : ltb b 128 ≡ false = le-ltb b 128 (omega arith) in
    let fewer : suc most - 1 ≡ most = omega arith in
    rw (six, seven) (ap (λ (r : Result SignedNumber Flaw). read_then r (signed_more b)) (rw fewer at is))

pub signed_is : (a b : ℤ) (size : ℕ) → a ≡ b
    → ◌≡◌ {A = Result SignedNumber Flaw} (Ok (record { value = a; size = size }))
    (Ok (record { value = b; size = size }))
signed_is a b size is = rw is refl
