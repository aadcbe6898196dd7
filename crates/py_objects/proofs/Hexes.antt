-- Hexadecimal digits in a width.
use Rattle.std.proofs.Common.{◌≡◌, ◌-◌, ◌^◌, refl, false, [], append-nil, ℕ}
use Rattle.std.proofs.Math.Nat.{sub-zero}
use Rattle.std.specs.Fmt.{digits, padded_integral, format_spec, char_count}
use Rattle.py_objects.specs.ShownTexts.{hex_of}

pub eight_digits : (n : ℕ) → padded_integral (format_spec 32 0 4 8 (2 ^ 64 - 1)) false [] (digits 16 false n) ≡ hex_of 8 n
unfolding padded_integral hex_of char_count
eight_digits n = simp (append-nil, sub-zero) refl

pub sixteen_digits : (n : ℕ) → padded_integral (format_spec 32 0 4 16 (2 ^ 64 - 1)) false [] (digits 16 false n) ≡ hex_of 16 n
unfolding padded_integral hex_of char_count
sixteen_digits n = simp (append-nil, sub-zero) refl
