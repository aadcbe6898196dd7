-- Functions in an order in which the one that covers an address comes first.
use Rattle.std.specs.Prelude.{ℕ, ◌+◌, ◌-◌, ◌^◌, ◌%◌, ◌==◌, ◌&&◌, nat_le, nat_lt, min, Bool, if◌then◌else◌, List, []}
use Rattle.std.specs.Prelude.{◌∷◌, ◌++◌}
use Rattle.elf64_core.specs.Symbols.{SymbolEntry}
use Rattle.piece_table.specs.declared.table.FileRange.{FileRange}
use Rattle.covering_symbols.specs.declared.function_key.FunctionKey.{FunctionKey}

-- a symbol's info is that of a function: the type is 2 (System V gABI)
abbrev pub is_function_info : ℕ → Bool
is_function_info info = info % 16 == 2

-- a symbol with its number, as a key
abbrev pub symbol_key : ℕ × SymbolEntry → FunctionKey
symbol_key n = record { below = 2 ^ 64 - 1 - n.1.value; size = n.1.size; number = n.0 }

-- the key of a symbol, where that is a function
abbrev pub keys_of : ℕ × SymbolEntry → List FunctionKey
keys_of n = if is_function_info n.1.info then symbol_key n ∷ [] else []

-- the functions of a list of symbols that are counted from a number on
abbrev pub function_keys : ℕ → List SymbolEntry → List FunctionKey
function_keys k [] = []
function_keys k (s ∷ symbols) = keys_of (k, s) ++ function_keys (k + 1) symbols

-- the value of a key's symbol
abbrev pub key_value : FunctionKey → ℕ
key_value key = 2 ^ 64 - 1 - key.below

-- a function covers an address; the sum is exact
abbrev pub key_covers : ℕ → FunctionKey → Bool
key_covers addr key = nat_le (key_value key) addr && nat_lt addr (key_value key + key.size)

-- the addresses of a function below 2^64 - 1, under its number
abbrev pub range_of_key : FunctionKey → FileRange
range_of_key key = record {
  range = record { start = key_value key; len = min key.size key.below; offset = 0 };
  file = key.number;
}
