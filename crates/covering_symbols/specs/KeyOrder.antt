-- The order of preference of functions.
use Rattle.std.specs.Prelude.{◌≡◌, ◌⊎◌, ℕ, ◌<◌, ◌≤◌, List, length, slice_index_or}
use Rattle.covering_symbols.specs.declared.function_key.FunctionKey.{FunctionKey}

-- one key comes before another, or is of the same function: it is less far below, or as far and of a smaller size, or
-- of the same size and no greater number
abbrev pub ComesFirst : FunctionKey → FunctionKey → Type 0
ComesFirst k l = (k.below < l.below)
    ⊎ ((k.below ≡ l.below) × ((k.size < l.size) ⊎ ((k.size ≡ l.size) × (k.number ≤ l.number))))

-- each key comes before those behind it
abbrev pub IsInOrder : List FunctionKey → Type 0
IsInOrder keys = (i j : ℕ) (d : FunctionKey) → i ≤ j → j < length keys
    → ComesFirst (slice_index_or keys i d) (slice_index_or keys j d)
