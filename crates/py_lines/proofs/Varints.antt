-- The number that begins some bytes, one byte at a time.
use Rattle.std.proofs.Common.{◌≡◌, ℕ, zero, suc, ◌+◌, ◌-◌, ◌*◌, ◌%◌, ◌^◌, ◌<◌, ◌≤◌, ◌≢◌, List, [], ◌∷◌, length, drop}
use Rattle.std.proofs.Common.{get_or, eqb, false, refl, sym, ap, arith}
use Rattle.std.specs.Prelude.{Option, Some, option_map}
use Rattle.std.specs.Int.{bit_at}
use Rattle.std.proofs.lemmas.Bool.Decides.{nat_tests}
use Rattle.std.proofs.Math.Nat.{pow-succ', pow-le-pow_right}
use Rattle.py_lines.specs.declared.varint.Number.{Number}
use Rattle.py_lines.specs.Varint.{varint_within, with_low}

pub varint_more : (most : ℕ) (bytes : List ℕ) (high : Option Number) → most ≢ 0 → length bytes ≢ 0 → bit_at (get_or bytes 0 0) 6 ≢ 0
    → varint_within (most - 1) (drop 1 bytes) ≡ high → varint_within most bytes ≡ option_map (with_low (get_or bytes 0 0)) high
varint_more zero bytes high n l e is = absurd (n refl)
varint_more (suc most) [] high n l e is = absurd (l refl)
varint_more (suc most) (b ∷ bytes) high n l e is =
    let more : eqb (bit_at b 6) 0 ≡ false = grind (arith, nat_tests) in
    let fewer : suc most - 1 ≡ most = omega arith in
    rw more (ap (option_map (with_low b)) (rw fewer at is))

pub more_is : (most : ℕ) (bytes : List ℕ) (low : ℕ) (high : Number) → most ≢ 0 → length bytes ≢ 0 → bit_at (get_or bytes 0 0) 6 ≢ 0
    → low ≡ get_or bytes 0 0 % 64 → varint_within (most - 1) (drop 1 bytes) ≡ Some high → Some (record { value = low + 64 * high.value; size = 1 + high.size }) ≡ varint_within most bytes
more_is most bytes low high n l e is rest = rw is (sym (varint_more most bytes (Some high) n l e rest))

-- one more byte is six more bits
pub six_more : (most low high : ℕ) → most ≢ 0 → low < 64 → high < 64 ^ (most - 1) → low + 64 * high < 64 ^ most
six_more zero low high n l h = absurd (n refl)
six_more (suc most) low high n l h =
    let fewer : suc most - 1 ≡ most = omega arith in
    let below : high < 64 ^ most = rw fewer at h in
    rw pow-succ' (omega arith)

pub six_bits : (most : ℕ) → most ≢ 0 → 64 ≤ 64 ^ most
six_bits most n = pow-le-pow_right (omega arith) {i = 1} {j = most} (omega arith)

pub at_most_36 : (most : ℕ) → most ≤ 6 → 64 ^ most ≤ 64 ^ 6
at_most_36 most h = pow-le-pow_right (omega arith) h
