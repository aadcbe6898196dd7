-- Hexadecimal digits in a width are read back.
use Rattle.std.proofs.Common.{◌≡◌, ◌<◌, ◌≤◌, ◌+◌, ◌-◌, ◌/◌, ◌^◌, ℕ, zero, suc, Bool, true, false, List, [], ◌∷◌, ◌++◌}
use Rattle.std.proofs.Common.{length, replicate, refl, sym, ap, subst, ◌∙◌, arith, eqb, eqb-true, length-append, cond}
use Rattle.std.proofs.Common.{◌%◌, ◌≢◌}
use Rattle.std.proofs.Math.Nat.{pow-suc}
use Rattle.std.specs.Fmt.{digits, digits_onto, digit_glyph}
use Rattle.std.specs.Str.Parse.{AllDigits, IsNumeral, digits_value}
use Rattle.std.proofs.lemmas.Fmt.{digits_is_IsNumeral}
use Rattle.std.proofs.lemmas.Bool.{eqb-false}
use Rattle.python_literals.specs.Quotes.{hex_of}
use Rattle.python_literals.specs.Literals.{IsHex}

onto_by : (f n : ℕ) (acc : List ℕ) (t : Bool) → eqb (n / 16) 0 ≡ t → digits_onto (suc f) 16 false n acc
    ≡ cond t (digit_glyph false (n % 16) ∷ acc) (digits_onto f 16 false (n / 16) (digit_glyph false (n % 16) ∷ acc))
onto_by f n acc t e = ap (λ (b : Bool). cond b (digit_glyph false (n % 16) ∷ acc)
    (digits_onto f 16 false (n / 16) (digit_glyph false (n % 16) ∷ acc))) e

abbrev AtMost : ℕ → Type 0
AtMost f = (k n : ℕ) (acc : List ℕ) → n < 16 ^ suc k → length (digits_onto f 16 false n acc) ≤ suc k + length acc

one_more : (f : ℕ) → AtMost f → (k n : ℕ) (acc : List ℕ) → n / 16 ≢ 0 → n < 16 ^ suc k
    → length (digits_onto f 16 false (n / 16) (digit_glyph false (n % 16) ∷ acc)) ≤ suc k + length acc
one_more f turn zero n acc d h = absurd (d (omega (arith, h)))
one_more f turn (suc k) n acc d h =
    omega (arith, turn k (n / 16) (digit_glyph false (n % 16) ∷ acc) (omega (arith, h, pow-suc 16 (suc k))))

by_last : (f : ℕ) → AtMost f → (k n : ℕ) (acc : List ℕ) → n < 16 ^ suc k → (t : Bool) → eqb (n / 16) 0 ≡ t
    → length (digits_onto (suc f) 16 false n acc) ≤ suc k + length acc
by_last f turn k n acc h true e =
    subst (λ (ds : List ℕ). length ds ≤ suc k + length acc) (sym (onto_by f n acc true e)) (omega arith)
by_last f turn k n acc h false e = subst (λ (ds : List ℕ). length ds ≤ suc k + length acc)
    (sym (onto_by f n acc false e)) (one_more f turn k n acc (eqb-false _ 0 e) h)

at_most : (f : ℕ) → AtMost f
at_most zero k n acc h = omega arith
at_most (suc f) k n acc h = by_last f (at_most f) k n acc h (eqb (n / 16) 0) refl

fits : (k n : ℕ) → n < 16 ^ suc k → length (digits 16 false n) ≤ suc k
unfolding digits
fits k n h = omega (arith, at_most 64 k n [] h)

zeros_digits : (k : ℕ) (ds : List ℕ) → AllDigits 16 ds → AllDigits 16 (replicate k 48 ++ ds)
zeros_digits zero ds a = a
zeros_digits (suc k) ds a = (omega arith, zeros_digits k ds a)

zeros_value : (k : ℕ) (ds : List ℕ) → digits_value 16 (replicate k 48 ++ ds) ≡ digits_value 16 ds
zeros_value zero ds = refl
zeros_value (suc k) ds = zeros_value k ds

zeros_length : (k : ℕ) (ds : List ℕ) → length (replicate k 48 ++ ds) ≡ k + length ds
zeros_length zero ds = omega arith
zeros_length (suc k) ds = omega (arith, zeros_length k ds)

-- a number below a power of 16 is read back from so many digits
pub hex_reads : (k n : ℕ) → n < 16 ^ suc k → n < 16 ^ 64 → IsHex (suc k) (hex_of (suc k) n) n
unfolding hex_of
hex_reads k n h small = record {
  long = zeros_length (suc k - length (digits 16 false n)) (digits 16 false n) ∙ omega (arith, fits k n h);
  all = zeros_digits (suc k - length (digits 16 false n)) (digits 16 false n) numeral.0.1;
  is = zeros_value (suc k - length (digits 16 false n)) (digits 16 false n) ∙ numeral.1;
}
  where
    numeral : IsNumeral 16 (digits 16 false n) × (digits_value 16 (digits 16 false n) ≡ n)
    numeral = digits_is_IsNumeral 16 false (omega arith) (omega arith) n small
