-- What a mode allows, and how it is printed.
use Rattle.std.specs.Prelude.{ℕ, ◌==◌, Bool, not, if◌then◌else◌, nat_le, List, [], ◌∷◌, length, slice_index, bit_and}
use Rattle.std.specs.Prelude.{bit_or}
use Rattle.maps_text.specs.declared.perm.Perm.{Perm}

-- some bit is set in both
abbrev pub has_bits : ℕ → ℕ → Bool
has_bits a b = not (bit_and a b == 0)

-- a byte of a mode, and the bit that it sets where it is a letter
abbrev pub bit_for : ℕ → ℕ → ℕ → ℕ
bit_for letter bit byte = if byte == letter then bit else 0

-- a mode has at least three bytes
abbrev pub is_mode : List ℕ → Bool
is_mode mode = nat_le 3 (length mode)

-- what a mode allows: its first three bytes set 4, 2, 1 where they are r, w, x
abbrev pub perm_of : List ℕ → Perm
perm_of mode = record {
  0 = bit_or (bit_or (bit_for 114 4 (slice_index mode 0)) (bit_for 119 2 (slice_index mode 1)))
      (bit_for 120 1 (slice_index mode 2));
}

-- a letter where the bit is set, and - where it is not
abbrev pub letter_for : ℕ → ℕ → ℕ → ℕ
letter_for perm bit letter = if has_bits perm bit then letter else 45

-- rwx, with - for each that is missing
abbrev pub perm_text : ℕ → List ℕ
perm_text perm = letter_for perm 4 114 ∷ letter_for perm 2 119 ∷ letter_for perm 1 120 ∷ []
