use Rattle.std.proofs.Common.{◌≡◌, ◌*◌, map}
use Rattle.std.specs.List.{range_with_len}
use Rattle.elf64_core.specs.Symbols.{symbol_entry_of, symbol_entry_in}
use Rattle.elf64_core.proofs.symbol.symbols_in.Given as goal

abbrev pub invariant-loop-number : goal.invariant-loop-number
invariant-loop-number l =
    map symbol_entry_of l.symbols.items ≡ map (λ k. symbol_entry_in l.strings l.table (24 * k)) (range_with_len 0 l.number)
