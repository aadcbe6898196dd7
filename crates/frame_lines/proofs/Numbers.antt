-- The number that begins some bytes, one byte at a time; and how many bytes have no bit 7.
use Rattle.std.proofs.Common.{◌≡◌, ℕ, zero, suc, ◌+◌, ◌-◌, ◌*◌, ◌%◌, ◌<◌, ◌≤◌, ◌≢◌, List, [], ◌∷◌, length, drop}
use Rattle.std.proofs.Common.{get_or, eqb, ltb, true, false, refl, sym, ap, arith}
use Rattle.std.specs.Prelude.{Option, Some, option_map}
use Rattle.std.specs.Int.{bit_at}
use Rattle.std.proofs.lemmas.Bool.Decides.{nat_tests}
use Rattle.frame_lines.specs.Entries.{number_within, tail_len}

pub number_more : (most : ℕ) (bytes : List ℕ) (high : Option ℕ) → most ≢ 0 → length bytes ≢ 0
    → bit_at (get_or bytes 0 0) 6 ≢ 0
    → number_within (most - 1) (drop 1 bytes) ≡ high
    → number_within most bytes ≡ option_map (λ h. get_or bytes 0 0 % 64 + 64 * h) high
number_more zero bytes high n l e is = absurd (n refl)
number_more (suc most) [] high n l e is = absurd (l refl)
number_more (suc most) (b ∷ bytes) high n l e is =
    let more : eqb (bit_at b 6) 0 ≡ false = grind (arith, nat_tests) in
    let fewer : suc most - 1 ≡ most = omega arith in
    rw more (ap (option_map (λ h. b % 64 + 64 * h)) (rw fewer at is))

pub number_is : (most : ℕ) (bytes : List ℕ) (low high : ℕ) → most ≢ 0 → length bytes ≢ 0
    → bit_at (get_or bytes 0 0) 6 ≢ 0
    → low ≡ get_or bytes 0 0 % 64 → number_within (most - 1) (drop 1 bytes) ≡ Some high
    → Some (low + 64 * high) ≡ number_within most bytes
number_is most bytes low high n l e is rest = rw is (sym (number_more most bytes (Some high) n l e rest))

pub tail_more : (i : ℕ) (bytes : List ℕ) → i < length bytes → get_or bytes i 0 < 128
    → tail_len (drop i bytes) ≡ 1 + tail_len (drop (i + 1) bytes)
unfolding tail_len
tail_more zero [] some low = absurd (omega arith)
tail_more zero (b ∷ bytes) some low = let is : ltb b 128 ≡ true = grind (arith, nat_tests) in rw is refl
tail_more (suc i) [] some low = absurd (omega arith)
tail_more (suc i) (b ∷ bytes) some low =
    let next : suc i + 1 ≡ suc (i + 1) = omega arith in
    rw next (tail_more i bytes (omega arith) low)

pub tail_ends : (i : ℕ) (bytes : List ℕ) → i < length bytes → 128 ≤ get_or bytes i 0 → tail_len (drop i bytes) ≡ 0
unfolding tail_len
tail_ends zero [] some high = absurd (omega arith)
tail_ends zero (b ∷ bytes) some high = let is : ltb b 128 ≡ false = grind (arith, nat_tests) in rw is refl
tail_ends (suc i) [] some high = absurd (omega arith)
tail_ends (suc i) (b ∷ bytes) some high = tail_ends i bytes (omega arith) high

pub tail_none : tail_len [] ≡ 0
unfolding tail_len
tail_none = refl
