-- Where names of files may end in a text, by index: what the reader of lines looks at.
use Rattle.std.specs.Prelude.{◌≡◌, ℕ, ◌+◌, ◌≤◌, ◌<◌, ◌==◌, ◌&&◌, Bool, true, false, List, [], ◌∷◌, drop, length}
use Rattle.std.specs.Prelude.{slice_index, Option, Some, None}
use Rattle.std.specs.Char.{is_ascii_digit}

-- a quote, a colon and a digit stand in front
abbrev pub is_closing : List ℕ → Bool
is_closing (a ∷ b ∷ c ∷ rest) = a == 34 && (b == 58 && is_ascii_digit c)
is_closing (a ∷ b ∷ []) = false
is_closing (a ∷ []) = false
is_closing [] = false

-- the first dot behind the first character
pub record IsInnerDot (text : List ℕ) (place : ℕ) : Type 0 where
  pub behind : 1 ≤ place
  pub within : place < length text
  pub dot : slice_index text place ≡ 46
  pub first : (k : ℕ) → 1 ≤ k → k < place → slice_index text k ≡ 46 → ⊥

-- the last place, from one on and before another, at which a quote, a colon and a digit stand
abbrev pub IsLastIn : List ℕ → ℕ → ℕ → Option ℕ → Type 0
IsLastIn text from to None = (k : ℕ) → from ≤ k → k < to → is_closing (drop k text) ≡ false
IsLastIn text from to (Some place) = (from ≤ place) × (place < to) × (is_closing (drop place text) ≡ true)
    × ((k : ℕ) → place < k → k < to → is_closing (drop k text) ≡ false)

-- a name ends at this place: a dot stands inside, and a quote, a colon and a digit behind
abbrev pub EndsAt : List ℕ → ℕ → Type 0
EndsAt text place =
    ((dot : ℕ) × (1 ≤ dot) × (dot + 1 < place) × (slice_index text dot ≡ 46)) × (is_closing (drop place text) ≡ true)

-- the last place at which a name ends
abbrev pub IsNameEnd : List ℕ → Option ℕ → Type 0
IsNameEnd text None = (k : ℕ) → EndsAt text k → ⊥
IsNameEnd text (Some place) = EndsAt text place × (place < length text) × ((k : ℕ) → EndsAt text k → k ≤ place)
