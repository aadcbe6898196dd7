-- Which files have symbols that can be read.
use Rattle.std.proofs.Common.{◌≡◌, ℕ, List, [], Option, Some, None, sym, ap, subst, ◌∙◌}
use Rattle.std.specs.Prelude.{MatchOption, ⊤}
use Rattle.elf64_core.specs.Header.{IsInside}
use Rattle.elf64_core.specs.Sections.{HasSections, contents_of, strings_of}
use Rattle.elf64_core.specs.Symbols.{HasSymbols, entries_in, entries_or_none, section_entries, symbol_section}
use Rattle.elf64_core.specs.Symbols.{symbols_of}
use Rattle.elf64_core.specs.declared.section.Section.{Section}
use Rattle.elf64_core.specs.declared.symbol.SymbolKind.{SymbolKind}

abbrev LiesInside : List ℕ → Option Section → Type 0
LiesInside bytes found = MatchOption found ⊤ (λ section. IsInside bytes section.offset section.size)

pub HasSymbols-none : (bytes : List ℕ) (kind : SymbolKind) → HasSections bytes → symbol_section bytes kind ≡ None
    → HasSymbols bytes kind
HasSymbols-none bytes kind held none = record { sections = held; inside = subst (LiesInside bytes) (sym none) tt }

pub HasSymbols-some : (bytes : List ℕ) (kind : SymbolKind) (section : Section) → HasSections bytes
    → symbol_section bytes kind ≡ Some section → IsInside bytes section.offset section.size → HasSymbols bytes kind
HasSymbols-some bytes kind section held is inside =
    record { sections = held; inside = subst (LiesInside bytes) (sym is) inside }

pub HasSymbols-inside : (bytes : List ℕ) (kind : SymbolKind) (section : Section) → HasSymbols bytes kind
    → symbol_section bytes kind ≡ Some section → IsInside bytes section.offset section.size
HasSymbols-inside bytes kind section h is = subst (LiesInside bytes) is h.inside

pub symbols_of-none : (bytes : List ℕ) (kind : SymbolKind) → symbol_section bytes kind ≡ None → symbols_of bytes kind ≡ []
unfolding symbols_of
symbols_of-none bytes kind none = ap (section_entries bytes) none

pub symbols_of-some : (bytes table : List ℕ) (kind : SymbolKind) (section : Section)
    → symbol_section bytes kind ≡ Some section → contents_of bytes section ≡ Some table
    → symbols_of bytes kind ≡ entries_in (strings_of bytes section.link) table
unfolding symbols_of
symbols_of-some bytes table kind section is contents =
    ap (section_entries bytes) is ∙ ap (entries_or_none (strings_of bytes section.link)) contents
