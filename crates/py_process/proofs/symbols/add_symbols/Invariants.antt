use Rattle.std.proofs.Common.{◌≡◌, ℕ, List, take, map}
use Rattle.std.specs.Option.{option_or}
use Rattle.elf64_core.specs.Symbols.{symbol_entry_of}
use Rattle.py_process.specs.SymbolMap.{address_in, address_of}
use Rattle.py_process.proofs.symbols.add_symbols.Given as goal

abbrev pub invariant-loop-symbol : goal.invariant-loop-symbol
invariant-loop-symbol l = (name : List ℕ) → address_in l.kept name
    ≡ option_or (address_of l.place name (map symbol_entry_of (take l.symbol-index l.symbols))) (address_in l.fn.kept name)
