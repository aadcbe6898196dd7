-- Symbols, by the System V gABI, for 64-bit little-endian files.
use Rattle.std.specs.Prelude.{ℕ, ◌+◌, ◌*◌, ◌/◌, nat_eq, List, [], length, map, Option, Some, None, option_copied}
use Rattle.std.specs.Prelude.{MatchOption, ⊤}
use Rattle.std.specs.List.{find, range_with_len}
use Rattle.elf64_core.specs.Fields.{u64_in, u32_in, u16_in, u8_in}
use Rattle.elf64_core.specs.Offsets.{st_info, st_shndx, st_size, st_value}
use Rattle.elf64_core.specs.Header.{IsInside}
use Rattle.elf64_core.specs.Sections.{HasSections, sections_of, contents_of, strings_of, string_in}
use Rattle.elf64_core.specs.declared.section.Section.{Section}
use Rattle.elf64_core.specs.declared.symbol.Symbol.{Symbol}
use Rattle.elf64_core.specs.declared.symbol.SymbolKind.{SymbolKind}
use Rattle.elf64_core.specs.declared.symbol.SymbolKind.TheVariants.{Plain, Dynamic}

-- what an entry of a symbol section says
pub record SymbolEntry : Type 0 where
  pub name : Option (List ℕ)
  pub info : ℕ
  pub section : ℕ
  pub value : ℕ
  pub size : ℕ

-- what a symbol says
abbrev pub symbol_entry_of : Symbol → SymbolEntry
symbol_entry_of symbol = record {
  name = option_copied symbol.name;
  info = symbol.info;
  section = symbol.section;
  value = symbol.value;
  size = symbol.size;
}

-- the entry at an offset of a symbol section; its name stands in the strings, where those hold it
unfoldable pub symbol_entry_in : Option (List ℕ) → List ℕ → ℕ → SymbolEntry
symbol_entry_in strings table at = record {
  name = string_in strings (u32_in table at);
  info = u8_in table (at + st_info);
  section = u16_in table (at + st_shndx);
  value = u64_in table (at + st_value);
  size = u64_in table (at + st_size);
}

-- the whole entries of a symbol section, 24 bytes each
abbrev pub entries_in : Option (List ℕ) → List ℕ → List SymbolEntry
entries_in strings table = map (λ k. symbol_entry_in strings table (24 * k)) (range_with_len 0 (length table / 24))

-- the kind of section that has such symbols
abbrev pub section_kind : SymbolKind → ℕ
section_kind Plain = 2
section_kind Dynamic = 11

-- the first section of that kind, in table order
abbrev pub first_section : SymbolKind → List Section → Option Section
first_section kind sections = find (λ section. nat_eq section.kind (section_kind kind)) sections

-- the first section of a kind of symbol table
abbrev pub symbol_section : List ℕ → SymbolKind → Option Section
symbol_section bytes kind = first_section kind (sections_of bytes)

-- symbols that can be read: the section headers can be, and the section's bytes lie in the file
pub record HasSymbols (bytes : List ℕ) (kind : SymbolKind) : Type 0 where
  pub sections : HasSections bytes
  pub inside : MatchOption (symbol_section bytes kind) ⊤ (λ section. IsInside bytes section.offset section.size)

-- the entries of a symbol section; none where there is no such section, or its bytes don't lie in the file
abbrev pub entries_or_none : Option (List ℕ) → Option (List ℕ) → List SymbolEntry
entries_or_none strings None = []
entries_or_none strings (Some table) = entries_in strings table

-- the entries of a symbol table; none where there is no such section
abbrev pub section_entries : List ℕ → Option Section → List SymbolEntry
section_entries bytes None = []
section_entries bytes (Some section) = entries_or_none (strings_of bytes section.link) (contents_of bytes section)

-- all symbols of a kind, in table order; the linked section has their names
unfoldable pub symbols_of : List ℕ → SymbolKind → List SymbolEntry
symbols_of bytes kind = section_entries bytes (symbol_section bytes kind)
