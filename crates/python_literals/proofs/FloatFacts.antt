-- Floats that are numbers, and their bits.
use Rattle.std.proofs.Common.{◌≡◌, ◌<◌, ◌%◌, ◌/◌, ◌^◌, ℕ, zero, suc, Bool, true, false, List, refl, Some, arith, leb}
use Rattle.std.proofs.Common.{eqb, cond, ap, ne_eqb, ◌∙◌, ◌+◌}
use Rattle.std.specs.Prelude.{IsTrue}
use Rattle.std.specs.Float.{binary64, float_is_finite, NotNan}
use Rattle.std.specs.Float.Ieee.{Float, nan, inf, fin, odd, of_fields, of_bits, low, top, hid}
use Rattle.std.proofs.lemmas.Bool.{false≢true}
use Rattle.std.proofs.lemmas.Float.{le_refl}
use Rattle.ryu.specs.Parse.{parse_float}
use Rattle.python_literals.specs.Floats.{IsDecimalOf}

number : (x : Float) → IsTrue (float_is_finite x) → NotNan x
unfolding lib.Ieee.is_nan float_is_finite
number nan h = absurd (false≢true h)
number (inf negative) h = absurd (false≢true h)
number (fin negative m e) h = tt

-- what reads back as the float itself is a decimal of it
pub own_decimal : (x : Float) (text : List ℕ) → IsTrue (float_is_finite x) → parse_float binary64 text ≡ Some x
    → IsDecimalOf x text
own_decimal x text h e = record {
  read = x;
  reads = e;
  at_most = le_refl x (number x h);
  at_least = le_refl x (number x h);
  sign = refl;
}

odd_finite : (d : ℕ) (s : Bool) (q k l : ℕ) → float_is_finite (odd d s q k l) ≡ true
unfolding odd float_is_finite
odd_finite d s zero k l = refl
odd_finite d s (suc q) k l = refl

fields_finite : (s : Bool) (x t : ℕ) → x < 2047 → float_is_finite (of_fields binary64 s x t) ≡ true
unfolding of_fields
fields_finite s zero t h = odd_finite 53 s t 0 (low binary64)
fields_finite s (suc x) t h =
    ap (λ (b : Bool). float_is_finite (cond b (cond (eqb t 0) (inf s) nan) (odd 53 s (hid binary64 + t) x (low binary64))))
    (ne_eqb (suc x) 2047 (λ e. omega (arith, h, e))) ∙ odd_finite 53 s (hid binary64 + t) x (low binary64)

-- the bits of a finite float
pub bits_finite : (b : ℕ) → b % 2 ^ 63 < 0x7ff0_0000_0000_0000 → IsTrue (float_is_finite (of_bits binary64 b))
unfolding of_bits
bits_finite b h = fields_finite (leb (top binary64) b) (b % top binary64 / hid binary64) (b % hid binary64) (omega (arith, h))
