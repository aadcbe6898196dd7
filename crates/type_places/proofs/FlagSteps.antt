-- A bit of a number, as code asks for it.
use Rattle.std.proofs.Common.{◌≡◌, ℕ, ◌*◌, ◌<◌, ◌^◌, nat_eq, arith}
use Rattle.std.specs.Prelude.{not}
use Rattle.std.specs.Int.{bit_at}
use Rattle.std.specs.Int.Bits.{bit_and}
use Rattle.std.proofs.lemmas.Nat.Bits.{and_pow, bit_at-lt}
use Rattle.std.proofs.lemmas.Bool.Decides.{nat_tests}
use Rattle.py_builtins.specs.Texts.{bit_is_set}

by_bit : (flags : ℕ) (b : ℕ) → bit_and flags (2 ^ 31) ≡ 2 ^ 31 * b → b < 2
    → not (nat_eq (bit_and flags (2 ^ 31)) 0) ≡ nat_eq b 1
by_bit flags b e lt = grind (arith, nat_tests)

pub flag_set : (flags : ℕ) → not (nat_eq (bit_and flags 2147483648) 0) ≡ bit_is_set flags 31
flag_set flags = by_bit flags (bit_at flags 31) (omega (arith, and_pow flags 31)) (bit_at-lt flags 31)
