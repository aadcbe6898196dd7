-- The bits of a text's state.
use Rattle.std.proofs.Common.{◌≡◌, ◌≢◌, ℕ, ◌+◌, ◌*◌, ◌/◌, ◌%◌, ◌<◌, ◌≤◌, ◌^◌, refl, sym, ◌∙◌, arith, inl, inr, List}
use Rattle.std.specs.Prelude.{Some, max}
use Rattle.std.specs.Int.{bit_at}
use Rattle.std.specs.Int.RustNames.{bit_or}
use Rattle.std.proofs.lemmas.Nat.{shr-shr, or_lt, pow_below}
use Rattle.std.proofs.lemmas.Nat.Bits.{bit_at_or, bit_at-pow_same, bit_at-pow_other}
use Rattle.py_fields.specs.Places.{Apart}
use Rattle.py_fields.specs.declared.layout.StringAt.{StringAt}
use Rattle.py_builtins.specs.declared.coding.TextKind.{TextKind}
use Rattle.py_builtins.specs.declared.coding.TextKind.TheVariants.{Utf8, Latin1, Utf16, Utf32}
use Rattle.py_builtins.specs.declared.strings.StateAt.{StateAt}
use Rattle.py_builtins.specs.Texts.{kind_in, place_in}
use Rattle.object_builder.specs.Texts.{AreBits, state_of, start_of}

-- three bits from `s` on
three_bits : (n s : ℕ) → n / 2 ^ s % 8 ≡ bit_at n s + 2 * bit_at n (s + 1) + 4 * bit_at n (s + 2)
three_bits n s =
    let one : n / 2 ^ (s + 1) ≡ n / 2 ^ s / 2 = sym (shr-shr n s 1) in
    let two : n / 2 ^ (s + 2) ≡ n / 2 ^ s / 4 = sym (shr-shr n s 2) in
    rw (one, two) (omega arith)

bit_of_or : (a b i : ℕ) (x y : ℕ) → bit_at a i ≡ x → bit_at b i ≡ y → bit_at (bit_or a b) i ≡ max x y
bit_of_or a b i x y p q = bit_at_or a b i ∙ rw (p, q) refl

-- a bit that isn't among those of the kind
abbrev IsBeside : ℕ → ℕ → Type 0
IsBeside shift bit = (bit ≢ shift) × (bit ≢ shift + 1) × (bit ≢ shift + 2)

beside : (shift bit : ℕ) → Apart (shift, 3) (bit, 1) → IsBeside shift bit
beside shift bit (inl le) = (omega arith, omega arith, omega arith)
beside shift bit (inr le) = (omega arith, omega arith, omega arith)

other_bit : (a b : ℕ) → Apart (a, 1) (b, 1) → a ≢ b
other_bit a b (inl le) = omega arith
other_bit a b (inr le) = omega arith

module _ (s : StateAt) (bits : AreBits s) where
  beside_compact : IsBeside s.kind_shift s.compact_bit
  beside_compact = beside s.kind_shift s.compact_bit bits.compact_apart

  beside_ascii : IsBeside s.kind_shift s.ascii_bit
  beside_ascii = beside s.kind_shift s.ascii_bit bits.ascii_apart

  apart_bits : s.compact_bit ≢ s.ascii_bit
  apart_bits = other_bit s.compact_bit s.ascii_bit bits.differ

  shift_bits : (k : ℕ) (x y z : ℕ) → bit_at k s.kind_shift ≡ x → bit_at k (s.kind_shift + 1) ≡ y
      → bit_at k (s.kind_shift + 2) ≡ z → k / 2 ^ s.kind_shift % 8 ≡ x + 2 * y + 4 * z
  shift_bits k x y z p q r = three_bits k s.kind_shift ∙ rw (p, q, r) refl

  -- two powers, the second beside the kind's bits
  two_powers : (j i : ℕ) (x : ℕ) → bit_at (2 ^ j) i ≡ x → i ≢ s.compact_bit → x ≤ 1
      → bit_at (bit_or (2 ^ j) (2 ^ s.compact_bit)) i ≡ x
  two_powers j i x p apart le = bit_of_or (2 ^ j) (2 ^ s.compact_bit) i x 0 p (bit_at-pow_other s.compact_bit i apart)
      ∙ omega arith

  compact_set : (j : ℕ) → bit_at (bit_or (2 ^ j) (2 ^ s.compact_bit)) s.compact_bit ≡ 1
  compact_set j = bit_at_or (2 ^ j) (2 ^ s.compact_bit) s.compact_bit ∙ rw (bit_at-pow_same s.compact_bit) (omega arith)

  kind_two : (j i : ℕ) → i ≢ s.compact_bit → i ≢ j → bit_at (bit_or (2 ^ j) (2 ^ s.compact_bit)) i ≡ 0
  kind_two j i c apart = two_powers j i 0 (bit_at-pow_other j i apart) c (omega arith)

  kind_one : (j : ℕ) → j ≢ s.compact_bit → bit_at (bit_or (2 ^ j) (2 ^ s.compact_bit)) j ≡ 1
  kind_one j c = two_powers j j 1 (bit_at-pow_same j) c (omega arith)

  -- a third power changes no other bit
  with_ascii : (n i x : ℕ) → i ≢ s.ascii_bit → bit_at n i ≡ x → bit_at (bit_or n (2 ^ s.ascii_bit)) i ≡ x
  with_ascii n i x apart p = bit_of_or n (2 ^ s.ascii_bit) i x 0 p (bit_at-pow_other s.ascii_bit i apart) ∙ omega arith

  ascii_set : (n : ℕ) → bit_at (bit_or n (2 ^ s.ascii_bit)) s.ascii_bit ≡ 1
  ascii_set n = bit_at_or n (2 ^ s.ascii_bit) s.ascii_bit ∙ rw (bit_at-pow_same s.ascii_bit) (omega arith)

  pub kind_is : (k : TextKind) → kind_in s (state_of s k) ≡ Some k
  unfolding kind_in state_of
  kind_is Utf8 =
      let c = beside_compact in
      let d = beside_ascii in
      let two = bit_or (2 ^ s.kind_shift) (2 ^ s.compact_bit) in
      let kind : state_of s Utf8 / 2 ^ s.kind_shift % 8 ≡ 1 = shift_bits (state_of s Utf8) 1 0 0
      (with_ascii two s.kind_shift 1 (omega arith) (kind_one s.kind_shift (omega arith)))
      (with_ascii two (s.kind_shift + 1) 0 (omega arith) (kind_two s.kind_shift (s.kind_shift + 1) (omega arith)
      (omega arith)))
      (with_ascii two (s.kind_shift + 2) 0 (omega arith) (kind_two s.kind_shift (s.kind_shift + 2) (omega arith)
      (omega arith))) in
      let ascii : bit_at (state_of s Utf8) s.ascii_bit ≡ 1 = ascii_set two in
      rw (kind, ascii) refl
  kind_is Latin1 =
      let c = beside_compact in
      let d = beside_ascii in
      let e = apart_bits in
      let kind : state_of s Latin1 / 2 ^ s.kind_shift % 8 ≡ 1 = shift_bits (state_of s Latin1) 1 0 0
      (kind_one s.kind_shift (omega arith)) (kind_two s.kind_shift (s.kind_shift + 1) (omega arith) (omega arith))
      (kind_two s.kind_shift (s.kind_shift + 2) (omega arith) (omega arith)) in
      let ascii : bit_at (state_of s Latin1) s.ascii_bit ≡ 0 =
      kind_two s.kind_shift s.ascii_bit (omega arith) (omega arith) in
      rw (kind, ascii) refl
  kind_is Utf16 =
      let c = beside_compact in
      let kind : state_of s Utf16 / 2 ^ s.kind_shift % 8 ≡ 2 = shift_bits (state_of s Utf16) 0 1 0
      (kind_two (s.kind_shift + 1) s.kind_shift (omega arith) (omega arith)) (kind_one (s.kind_shift + 1) (omega arith))
      (kind_two (s.kind_shift + 1) (s.kind_shift + 2) (omega arith) (omega arith)) in
      rw kind refl
  kind_is Utf32 =
      let c = beside_compact in
      let kind : state_of s Utf32 / 2 ^ s.kind_shift % 8 ≡ 4 = shift_bits (state_of s Utf32) 0 0 1
      (kind_two (s.kind_shift + 2) s.kind_shift (omega arith) (omega arith))
      (kind_two (s.kind_shift + 2) (s.kind_shift + 1) (omega arith) (omega arith))
      (kind_one (s.kind_shift + 2) (omega arith)) in
      rw kind refl

  pub place_is : (t : StringAt) → t.long_at ≡ Some s.long_at → (k : TextKind) (a : ℕ) (object : List ℕ)
      → place_in t s a object (state_of s k) ≡ a + start_of t k
  unfolding place_in state_of
  place_is t long Utf8 a object =
      let d = apart_bits in
      let two = bit_or (2 ^ s.kind_shift) (2 ^ s.compact_bit) in
      let compact : bit_at (state_of s Utf8) s.compact_bit ≡ 1 =
      with_ascii two s.compact_bit 1 (omega arith) (compact_set s.kind_shift) in
      let ascii : bit_at (state_of s Utf8) s.ascii_bit ≡ 1 = ascii_set two in
      rw (compact, ascii) refl
  place_is t long Latin1 a object =
      let d = beside_ascii in
      let e = apart_bits in
      let ascii : bit_at (state_of s Latin1) s.ascii_bit ≡ 0 =
      kind_two s.kind_shift s.ascii_bit (omega arith) (omega arith) in
      rw (compact_set s.kind_shift, ascii, long) refl
  place_is t long Utf16 a object =
      let d = beside_ascii in
      let e = apart_bits in
      let ascii : bit_at (state_of s Utf16) s.ascii_bit ≡ 0 =
      kind_two (s.kind_shift + 1) s.ascii_bit (omega arith) (omega arith) in
      rw (compact_set (s.kind_shift + 1), ascii, long) refl
  place_is t long Utf32 a object =
      let d = beside_ascii in
      let e = apart_bits in
      let ascii : bit_at (state_of s Utf32) s.ascii_bit ≡ 0 =
      kind_two (s.kind_shift + 2) s.ascii_bit (omega arith) (omega arith) in
      rw (compact_set (s.kind_shift + 2), ascii, long) refl

  pow_small : (i : ℕ) → i ≤ 31 → 2 ^ i < 2 ^ 32
  pow_small i le = pow_below i 32 (omega arith)

  pub state_small : (k : TextKind) → state_of s k < 2 ^ 32
  unfolding state_of
  state_small Utf8 = or_lt 32 _ _ (or_lt 32 _ _ (pow_small s.kind_shift (omega (arith, bits.shift)))
      (pow_small s.compact_bit bits.compact)) (pow_small s.ascii_bit bits.ascii)
  state_small Latin1 = or_lt 32 _ _ (pow_small s.kind_shift (omega (arith, bits.shift)))
      (pow_small s.compact_bit bits.compact)
  state_small Utf16 = or_lt 32 _ _ (pow_small (s.kind_shift + 1) (omega (arith, bits.shift)))
      (pow_small s.compact_bit bits.compact)
  state_small Utf32 = or_lt 32 _ _ (pow_small (s.kind_shift + 2) (omega (arith, bits.shift)))
      (pow_small s.compact_bit bits.compact)
