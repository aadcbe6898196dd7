-- Hexadecimal digits in a width.
use Rattle.std.proofs.Common.{◌≡◌, ◌-◌, ◌^◌, refl, false, [], append-nil, ℕ}
use Rattle.std.proofs.Math.Nat.{sub-zero}
use Rattle.std.specs.Fmt.{digits, padded_integral, format_spec, char_count}
use Rattle.python_literals.specs.Quotes.{hex_of}

pub two_digits : (n : ℕ) → padded_integral (format_spec 32 0 4 2 (2 ^ 64 - 1)) false [] (digits 16 false n) ≡ hex_of 2 n
unfolding padded_integral hex_of char_count
two_digits n = simp (append-nil, sub-zero) refl

pub four_digits : (n : ℕ) → padded_integral (format_spec 32 0 4 4 (2 ^ 64 - 1)) false [] (digits 16 false n) ≡ hex_of 4 n
unfolding padded_integral hex_of char_count
four_digits n = simp (append-nil, sub-zero) refl

pub eight_digits : (n : ℕ) → padded_integral (format_spec 32 0 4 8 (2 ^ 64 - 1)) false [] (digits 16 false n) ≡ hex_of 8 n
unfolding padded_integral hex_of char_count
eight_digits n = simp (append-nil, sub-zero) refl
