use Rattle.std.proofs.Common.{◌≡◌, ◌<◌, ◌^◌, ◌++◌, map, take, All}
use Rattle.elf64_core.specs.Symbols.{symbol_entry_of}
use Rattle.elf64_core.specs.declared.symbol.Symbol.{Symbol}
use Rattle.covering_symbols.specs.FunctionKeys.{function_keys}
use Rattle.covering_symbols.proofs.Keys.{rest_keys}
use Rattle.covering_symbols.proofs.function_key.function_keys.Given as goal

abbrev pub invariant-loop-number : goal.invariant-loop-number
invariant-loop-number l = record {
  keys : l.keys.items ++ rest_keys l.number l.symbols ≡ function_keys 0 (map symbol_entry_of l.symbols);
  fit : All (λ (s : Symbol). s.value < 2 ^ 64) (take l.number l.symbols);
}
