-- Texts that a nul ends, as C and the string tables of the System V gABI have them.
use Rattle.std.specs.Prelude.{◌≡◌, ℕ, ◌+◌, ◌*◌, ◌/◌, ◌<◌, nat_eq, Bool, List, length, take, drop, Option, option_map}
use Rattle.std.specs.Prelude.{slice_index_or}
use Rattle.std.specs.List.{position, position_from}

-- whether a byte is 0
abbrev pub is_nul : ℕ → Bool
is_nul byte = nat_eq byte 0

-- the bytes before the first nul, where there is one
unfoldable pub until_nul : List ℕ → Option (List ℕ)
until_nul bytes = option_map (λ size. take size bytes) (position is_nul bytes)

-- the string that begins at an offset of a table of strings
unfoldable pub string_at : List ℕ → ℕ → Option (List ℕ)
string_at strings at = until_nul (drop at strings)

-- where the first nul stands from a place on, from 0 on
abbrev pub nul_from : List ℕ → (at : ℕ) → Option ℕ
nul_from bytes at = position_from is_nul at (drop at bytes)

-- where it stands from the start of each block of 64 bytes on
pub record AreEnds (bytes : List ℕ) (ends : List (Option ℕ)) : Type 0 where
  pub count : length ends ≡ length bytes / 64 + 1
  pub each : (number : ℕ) (other : Option ℕ) → number < length ends
      → slice_index_or ends number other ≡ nul_from bytes (64 * number)
