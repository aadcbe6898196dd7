use Rattle.std.proofs.Common.{◌<◌, ◌^◌, subst}
use Rattle.std.proofs.lemmas.List.Elements.{All-map}
use Rattle.elf64_core.specs.Symbols.{SymbolEntry, symbol_entry_of}
use Rattle.std.specs.List.Sorted.{IsPermutation}
use Rattle.covering_symbols.proofs.Sorting.{in_order}
use Rattle.covering_symbols.proofs.function_table.FunctionTable.of.Goals as goal

pub returns : goal.returns
returns c = record {
  same = subst (λ keys. IsPermutation keys c.sort.new.self.items) c.in_ok-keys.ensures.keys c.in_ok-sort.ensures.permutation;
  order = in_order c.sort.new.self.items c.in_ok-sort.ensures.sorted;
  fit = All-map (λ (s : SymbolEntry). s.value < 2 ^ 64) symbol_entry_of c.args.symbols.now c.in_ok-keys.ensures.fit;
}
