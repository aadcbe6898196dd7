use Rattle.std.proofs.Common.{◌∙◌, ap, map}
use Rattle.elf64_core.specs.Symbols.{symbol_entry_of, symbols_of}
use Rattle.elf64_core.specs.declared.symbol.SymbolKind.TheVariants.{Plain, Dynamic}
use Rattle.py_process.proofs.Stable.{symbols_held}
use Rattle.py_process.proofs.SymbolMaps.{both_lists}
use Rattle.py_process.proofs.symbols.kept_symbols.Goals as goal

pub returns-clause-held : goal.returns-clause-held
returns-clause-held c =
    let bytes = c.args.elf.now in
    record {
      plain = symbols_held bytes Plain (λ no. absurd (cc (c.in_ok-plain.ensures.bad.1 no)));
      dynamic = symbols_held bytes Dynamic (λ no. absurd (cc (c.in_ok-dynamic.ensures.bad.1 no)));
    }

pub returns-clause-symbols : goal.returns-clause-symbols
returns-clause-symbols c = λ name.
    both_lists c.args.place.now name (symbols_of c.args.elf.now Plain) (symbols_of c.args.elf.now Dynamic)
    c.deref.result.now c.deref-2.result.now c.new-kept.result c.add_symbols.new.kept c.add_symbols-2.new.kept
    (ap (map symbol_entry_of) c.deref.ensures.value ∙ c.in_ok-plain.ensures.symbols)
    (ap (map symbol_entry_of) c.deref-2.ensures.value ∙ c.in_ok-dynamic.ensures.symbols)
    c.new-kept.ensures.empty c.in_ok-add_symbols.ensures c.in_ok-add_symbols-2.ensures
