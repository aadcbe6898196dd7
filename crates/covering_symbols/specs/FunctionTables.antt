-- Functions by the addresses that they cover.
use Rattle.std.specs.Prelude.{ℕ, ◌<◌, ◌^◌, All, List}
use Rattle.std.specs.List.Sorted.{IsPermutation}
use Rattle.elf64_core.specs.Symbols.{SymbolEntry}
use Rattle.covering_symbols.specs.declared.function_key.FunctionKey.{FunctionKey}
use Rattle.covering_symbols.specs.FunctionKeys.{function_keys}
use Rattle.covering_symbols.specs.KeyOrder.{IsInOrder}

-- the number of a function in the table of symbols
abbrev pub key_number : FunctionKey → ℕ
key_number key = key.number

-- the functions of these symbols, in the order of preference
pub record IsTableOf (symbols : List SymbolEntry) (keys : List FunctionKey) : Type 0 where
  pub same : IsPermutation (function_keys 0 symbols) keys
  pub order : IsInOrder keys
  pub fit : All (λ (s : SymbolEntry). s.value < 2 ^ 64) symbols
