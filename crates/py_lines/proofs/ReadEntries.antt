-- An entry that is written is the entry that is read.
use Rattle.std.proofs.Common.{◌≡◌, ◌∙◌, ℕ, zero, suc, ◌+◌, ◌*◌, ◌/◌, ◌%◌, ◌^◌, ◌<◌, ◌≤◌, List, ◌∷◌, ◌++◌, length, refl}
use Rattle.std.proofs.Common.{ap, arith, true, false, ltb, eqb, inl, inr}
use Rattle.std.specs.Prelude.{Option, Some, None, option_map, ℤ, pos, negsuc, ◌≤ℤ◌}
use Rattle.std.specs.Int.{w8, bit_at, cast_signed, cast_unsigned}
use Rattle.std.specs.Int.RustNames.{FitsSigned}
use Rattle.std.specs.Ordering.{int_eq}
use Rattle.std.proofs.Math.Nat.{pow-succ'}
use Rattle.std.proofs.lemmas.Bool.{cases_lt, lt-ltb, le-ltb}
use Rattle.std.proofs.lemmas.Bool.Decides.{Decides-int_eq}
use Rattle.std.proofs.lemmas.Int.{ints, to_z-of_z}
use Rattle.py_lines.specs.declared.lines.LineFamily.{LineFamily}
use Rattle.py_lines.specs.declared.lines.LineFamily.TheVariants.{Pairs, Ranges, Locations}
use Rattle.py_lines.specs.declared.entry.Entry.{Entry}
use Rattle.py_lines.specs.declared.entry.LocationLine.{LocationLine}
use Rattle.py_lines.specs.declared.varint.Number.{Number}
use Rattle.py_lines.specs.Varint.{varint, varint_within, with_low, signed_of}
use Rattle.py_lines.specs.Entries.{first_entry, pair_entry, range_entry, without_line, no_line, location_entry}
use Rattle.py_lines.specs.Entries.{location_line, location_with, line_moved_by, IsSmall}
use Rattle.py_lines.specs.Coding.{entry_bytes, location_head, varint_bytes, signed_code, IsPart}

-- ---- an entry that is written is the entry that is read

abbrev pub entry_with : ℕ → ℕ → Option ℤ → Entry
entry_with size covers delta = record { size = size; covers = covers; delta = delta }

pub same_entry : (s t c k : ℕ) (d e : Option ℤ) → s ≡ t → c ≡ k → d ≡ e → Some (entry_with s c d) ≡ Some (entry_with t k e)
same_entry s t c k d e size covers delta = rw (size, covers, delta) refl

fits_byte : (d : ℤ) → negsuc 127 ≤ℤ d → d ≤ℤ pos 127 → FitsSigned w8 d
fits_byte (pos n) low high = record { sfits = omega (arith, ints, high) }
fits_byte (negsuc n) low high = record { sfits = omega (arith, ints, low) }

byte_back : (d : ℤ) → negsuc 127 ≤ℤ d → d ≤ℤ pos 127 → cast_signed w8 (cast_unsigned w8 d) ≡ d
byte_back d low high = to_z-of_z w8 d (fits_byte d low high)

pair_read : (covers byte : ℕ) (rest : List ℕ) (d : ℤ) → cast_signed w8 byte ≡ d → pair_entry (covers ∷ byte ∷ rest) ≡ Some (entry_with 2 covers (Some d))
pair_read covers byte rest d is =
    let wide : ltb (length (covers ∷ byte ∷ rest)) 2 ≡ false = le-ltb (length (covers ∷ byte ∷ rest)) 2 (omega arith) in
    rw (wide, is) refl

low_differs : (d : ℤ) → negsuc 126 ≤ℤ d → int_eq d no_line ≡ false
low_differs d low = elim (int_eq d no_line) as (λ b. int_eq d no_line ≡ b → int_eq d no_line ≡ false) [
  | true ↦ λ e. let is : d ≡ negsuc 127 = (Decides-int_eq d no_line).0 e in absurd (omega (arith, ints, low, is))
  | false ↦ λ e. e
] refl

range_read : (covers byte : ℕ) (rest : List ℕ) (d : ℤ) → cast_signed w8 byte ≡ d → negsuc 126 ≤ℤ d → range_entry (covers ∷ byte ∷ rest) ≡ Some (entry_with 2 covers (Some d))
range_read covers byte rest d is low =
    ap (option_map without_line) (pair_read covers byte rest d is) ∙ rw (low_differs d low) refl

gap_read : (covers : ℕ) (rest : List ℕ) → range_entry (covers ∷ 128 ∷ rest) ≡ Some (entry_with 2 covers None)
gap_read covers rest = ap (option_map without_line) (pair_read covers 128 rest (negsuc 127) refl) ∙ refl

-- numbers of several bytes
abbrev number : ℕ → ℕ → Number
number v s = record { value = v; size = s }

same_number : (v w s t : ℕ) → v ≡ w → s ≡ t → Some (number v s) ≡ Some (number w t)
same_number v w s t value size = rw (value, size) refl

pub varint_back : (most n : ℕ) (rest : List ℕ) → n < 64 ^ suc most → varint_within (suc most) (varint_bytes most n ++ rest) ≡ Some (record { value = n; size = length (varint_bytes most n) })
varint_back zero n rest small =
    let less : n < 64 = omega (arith, small) in
    let bit : bit_at n 6 ≡ 0 = omega arith in
    let low : n % 64 ≡ n = omega arith in
    rw (bit, low) refl
varint_back (suc most) n rest small = elim (cases_lt n 64) [
  | inl less ↦
      let bit : bit_at n 6 ≡ 0 = omega arith in
      let low : n % 64 ≡ n = omega arith in
      rw (lt-ltb n 64 less, bit, low) refl
  | inr more ↦
      let byte = 64 + n % 64 in
      let bit : eqb (bit_at byte 6) 0 ≡ false = (let one : bit_at byte 6 ≡ 1 = omega arith in rw one refl) in
      let power : 64 ^ suc (suc most) ≡ 64 * 64 ^ suc most = pow-succ' 64 (suc most) in
      let high : n / 64 < 64 ^ suc most = omega (arith, small, power) in
      let value : byte % 64 + 64 * (n / 64) ≡ n = omega arith in
      let later = varint_back most (n / 64) rest high in
      rw (le-ltb n 64 more, bit) (ap (option_map (with_low byte)) later ∙ same_number _ _ _ _ value (omega arith))
]

signed_back : (d : ℤ) → signed_of (signed_code d) ≡ d
signed_back (pos n) =
    let even : eqb (2 * n % 2) 1 ≡ false = (let none : 2 * n % 2 ≡ 0 = omega arith in rw none refl) in
    let half : 2 * n / 2 ≡ n = omega arith in
    rw (even, half) refl
signed_back (negsuc n) =
    let odd : eqb ((2 * suc n + 1) % 2) 1 ≡ true = (let one : (2 * suc n + 1) % 2 ≡ 1 = omega arith in rw one refl) in
    let half : (2 * suc n + 1) / 2 ≡ suc n = omega arith in
    rw (odd, half) refl

small_code : (d : ℤ) → negsuc (2 ^ 33) ≤ℤ d → d ≤ℤ pos (2 ^ 33) → signed_code d < 64 ^ 6
small_code (pos n) low high = omega (arith, ints, high)
small_code (negsuc n) low high = omega (arith, ints, low)

location_read : (byte : ℕ) (rest : List ℕ) (line : LocationLine) → 128 ≤ byte → location_line (byte / 8 % 16) rest ≡ Some line → location_entry (byte ∷ rest) ≡ Some (location_with byte line)
location_read byte rest line high is = rw (le-ltb byte 128 high, is) refl

no_line_read : (code : ℕ) (rest : List ℕ) → code ≡ 15 → location_line code rest ≡ Some (record { size = 0; delta = None })
no_line_read code rest is = rw is refl

delta_read : (code : ℕ) (rest : List ℕ) (n : Number) → code ≡ 13 → varint rest ≡ Some n → location_line code rest ≡ Some (line_moved_by n)
delta_read code rest n is number = rw is (ap (option_map line_moved_by) number)

pub entry_read : (family : LineFamily) (covers : ℕ) (delta : Option ℤ) (rest : List ℕ) → IsPart family covers delta
    → first_entry family (entry_bytes family covers delta ++ rest) ≡ Some (entry_with (length (entry_bytes family covers delta)) covers delta)
unfolding first_entry varint
entry_read Pairs covers None rest part = absurd part
entry_read Pairs covers (Some d) rest part = pair_read covers (cast_unsigned w8 d) rest d (byte_back d part.1 part.2)
entry_read Ranges covers None rest part = gap_read covers rest
entry_read Ranges covers (Some d) rest part = range_read covers (cast_unsigned w8 d) rest d (byte_back d (omega (arith, ints, part.1)) part.2) part.1
entry_read Locations covers None rest part =
    let byte = location_head 15 covers in
    let code : byte / 8 % 16 ≡ 15 = omega (arith, part.0) in
    location_read byte rest (record { size = 0; delta = None }) (omega arith) (no_line_read (byte / 8 % 16) rest code)
    ∙ same_entry (1 + 0) 1 (2 * (byte % 8 + 1)) covers None None refl (omega (arith, part.0, part.1, part.2)) refl
entry_read Locations covers (Some d) rest part =
    let byte = location_head 13 covers in
    let code : byte / 8 % 16 ≡ 13 = omega (arith, part.0) in
    let bytes = varint_bytes 5 (signed_code d) in
    let n : Number = record { value = signed_code d; size = length bytes } in
    let number : varint (bytes ++ rest) ≡ Some n = varint_back 5 (signed_code d) rest (small_code d part.3 part.4) in
    location_read byte (bytes ++ rest) (line_moved_by n) (omega arith) (delta_read (byte / 8 % 16) (bytes ++ rest) n code number)
    ∙ same_entry (1 + length bytes) (length (byte ∷ bytes)) (2 * (byte % 8 + 1)) covers (Some (signed_of (signed_code d))) (Some d) (omega arith) (omega (arith, part.0, part.1, part.2)) (ap Some (signed_back d))

-- it covers few bytes of code, moves the line little, and has a byte at least
pub part_small : (family : LineFamily) (size covers : ℕ) (delta : Option ℤ) → IsPart family covers delta → IsSmall (entry_with size covers delta)
part_small Pairs size covers None part = absurd part
part_small Pairs size covers (Some d) part = record { covers = part.0; delta = (omega (arith, ints, part.1), omega (arith, ints, part.2)) }
part_small Ranges size covers None part = record { covers = part; delta = tt }
part_small Ranges size covers (Some d) part = record { covers = part.0; delta = (omega (arith, ints, part.1), omega (arith, ints, part.2)) }
part_small Locations size covers None part = record { covers = omega (arith, part.0); delta = tt }
part_small Locations size covers (Some d) part = record { covers = omega (arith, part.0); delta = (omega (arith, ints, part.3), omega (arith, ints, part.4)) }

pub some_bytes : (family : LineFamily) (covers : ℕ) (delta : Option ℤ) → 1 ≤ length (entry_bytes family covers delta)
some_bytes Pairs covers delta = omega arith
some_bytes Ranges covers delta = omega arith
some_bytes Locations covers None = omega arith
some_bytes Locations covers (Some d) = omega arith
