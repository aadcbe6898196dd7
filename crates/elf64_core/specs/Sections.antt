-- Section headers, by the System V gABI, for 64-bit little-endian files: the sections of a file, their bytes
-- and their names. They are looked at only by calls that need them, so a file whose section headers can't be
-- read is accepted all the same. That their number stands in the header is this project's own rule.
use Rattle.std.specs.Prelude.{◌≡◌, ◌⊎◌, ℕ, zero, suc, ◌+◌, ◌*◌, nat_eq, nat_le, ◌||◌, if◌then◌else◌, List, [], ◌∷◌}
use Rattle.std.specs.Prelude.{length, slice_range, slice_get, Option, Some, None, option_and_then}
use Rattle.elf64_core.specs.Fields.{u64_in, u32_in, u16_in}
use Rattle.elf64_core.specs.Header.{IsInside}
use Rattle.elf64_core.specs.Nul.{string_at}
use Rattle.elf64_core.specs.Offsets.{e_shentsize, e_shnum, e_shoff, e_shstrndx, sh_addr, sh_link, sh_offset, sh_size}
use Rattle.elf64_core.specs.Offsets.{sh_type}
use Rattle.elf64_core.specs.declared.section.Section.{Section}

-- where the section headers are, how long each is, how many there are, and which section has their names
abbrev pub section_table : List ℕ → ℕ
section_table bytes = u64_in bytes e_shoff

-- `e_shentsize`, the length of a section header (gABI, "ELF Header")
abbrev pub section_entry_size : List ℕ → ℕ
section_entry_size bytes = u16_in bytes e_shentsize

-- `e_shnum`, how many section headers there are (gABI, "ELF Header")
abbrev pub section_count : List ℕ → ℕ
section_count bytes = u16_in bytes e_shnum

-- `e_shstrndx`, the number of the section of section names (gABI, "ELF Header")
abbrev pub names_section : List ℕ → ℕ
names_section bytes = u16_in bytes e_shstrndx

-- section headers that can be read: none, or such of 64 bytes, and they lie in the file
pub record HasSections (bytes : List ℕ) : Type 0 where
  pub sized : (section_count bytes ≡ 0) ⊎ (section_entry_size bytes ≡ 64)
  pub inside : IsInside bytes (section_table bytes) (64 * section_count bytes)

-- the section that the section header at an offset describes
unfoldable pub section_in : List ℕ → ℕ → Section
section_in bytes at = record {
  name = u32_in bytes at;
  kind = u32_in bytes (at + sh_type);
  addr = u64_in bytes (at + sh_addr);
  offset = u64_in bytes (at + sh_offset);
  size = u64_in bytes (at + sh_size);
  link = u32_in bytes (at + sh_link);
}

-- those of section headers that follow each other, 64 bytes each
unfoldable pub sections_from : List ℕ → (at count : ℕ) → List Section
sections_from bytes at zero = []
sections_from bytes at (suc count) = section_in bytes at ∷ sections_from bytes (at + 64) count

-- all sections, in table order
abbrev pub sections_of : List ℕ → List Section
sections_of bytes = sections_from bytes (section_table bytes) (section_count bytes)

-- the section of a number, from 0 on
unfoldable pub section_at : List ℕ → ℕ → Option Section
section_at bytes number = slice_get (sections_of bytes) number

-- the bytes of a range, where it lies in the file; a range of no bytes does wherever it begins
unfoldable pub range_at : List ℕ → (start size : ℕ) → Option (List ℕ)
range_at bytes start size =
    if nat_eq size 0 || nat_le (start + size) (length bytes)
    then Some (slice_range bytes start (start + size))
    else None

-- the bytes of a section, where they lie in the file
abbrev pub contents_of : List ℕ → Section → Option (List ℕ)
contents_of bytes section = range_at bytes section.offset section.size

-- the string at an offset of a string section, which may be missing
abbrev pub string_in : Option (List ℕ) → ℕ → Option (List ℕ)
string_in strings at = option_and_then (λ bytes. string_at bytes at) strings

-- the bytes of the section of a number, from 0 on, where there is one and they lie in the file
unfoldable pub strings_of : List ℕ → ℕ → Option (List ℕ)
strings_of bytes number = option_and_then (contents_of bytes) (section_at bytes number)

-- the name of a section: none where the section of names isn't there or the name has no end inside it
abbrev pub section_name_of : List ℕ → Section → Option (List ℕ)
section_name_of bytes section = string_in (strings_of bytes (names_section bytes)) section.name
