-- The bss and the runtime section of an image, and how far it was moved. What sections and segments are is
-- the System V gABI's; which of them counts, and what comes of sums that pass 2^64 - 1, is this project's own
-- rule, after py-spy.
use Rattle.std.specs.Prelude.{◌≡◌, ℕ, ◌+◌, ◌-◌, ◌%◌, ◌<◌, ◌≤◌, ◌^◌, nat_eq, nat_lt, ◌&&◌, Bool, true, false}
use Rattle.std.specs.Prelude.{if◌then◌else◌, List, ◌∷◌, ◌++◌, All, Option, Some, None, codes}
use Rattle.std.specs.List.{find}
use Rattle.std.specs.Cmp.Lexicographic.{pointwise}
use Rattle.elf64_core.specs.Header.{load_kind, segments_of}
use Rattle.elf64_core.specs.Sections.{HasSections, section_name_of, sections_of}
use Rattle.elf64_core.specs.declared.section.Section.{Section}
use Rattle.elf64_core.specs.declared.segment.Segment.{Segment}
use Rattle.py_process.specs.declared.ranges.BssRange.{BssRange}
use Rattle.py_process.specs.declared.ranges.Ranges.{Ranges}

-- the greatest address, 2^64 - 1
abbrev pub last_address : ℕ
last_address = 2 ^ 64 - 1

-- whether a section's name is this one; none is readable where it has no end
abbrev pub is_section_named : List ℕ → Option (List ℕ) → Bool
is_section_named wanted None = false
is_section_named wanted (Some name) = pointwise nat_eq name wanted

-- whether a section is named `.bss`, or has no readable name
abbrev pub is_bss_name : Option (List ℕ) → Bool
is_bss_name None = true
is_bss_name (Some name) = pointwise nat_eq name (codes ".bss")

-- whether a section may be the bss: it has no bits, and is named so or has no readable name
abbrev pub may_be_bss : List ℕ → Section → Bool
may_be_bss bytes section = nat_eq section.kind 8 && is_bss_name (section_name_of bytes section)

-- of those that may be, this one is of greatest size, and the last on a tie
pub record IsBss (bytes : List ℕ) (sections : List Section) (bss : Section) : Type 0 where
  pub before : List Section
  pub after : List Section
  pub parts : sections ≡ before ++ bss ∷ after
  pub may_be : may_be_bss bytes bss ≡ true
  pub none_greater : All (λ section. may_be_bss bytes section ≡ true → section.size ≤ bss.size) before
  pub smaller : All (λ section. may_be_bss bytes section ≡ true → section.size < bss.size) after

-- that one, or none where none may be
abbrev pub BssIs : List ℕ → List Section → Option Section → Type 0
BssIs bytes sections None = All (λ section. may_be_bss bytes section ≡ false) sections
BssIs bytes sections (Some bss) = IsBss bytes sections bss

-- the larger of two sections, the second on a tie
abbrev pub larger : Option Section → Section → Section
larger None section = section
larger (Some best) section = if nat_lt section.size best.size then best else section

-- whether a segment is loadable and executable
abbrev pub is_executable : Segment → Bool
is_executable segment = nat_eq segment.kind load_kind && nat_eq (segment.flags % 2) 1

-- the first load segment of an image that is executable
abbrev pub executable_of : List ℕ → Option Segment
executable_of bytes = find is_executable (segments_of bytes)

-- how far an image that is mapped at an address was moved: from that segment's page, but not down
abbrev pub moved_by : ℕ → Segment → ℕ
moved_by addr segment = addr - (segment.addr - segment.addr % 4096)

-- where the bss is and where it ended before it was moved; nothing where its address passes the last one,
-- and none where its end does
abbrev pub bss_range : Section → ℕ → Option BssRange
bss_range bss offset =
    if nat_lt last_address (bss.addr + offset) then Some (record { addr = 0; size = 0; end = 0 })
    else (if nat_lt last_address (bss.addr + offset + bss.size) then None
    else Some (record { addr = bss.addr + offset; size = bss.size; end = bss.addr + bss.size }))

-- whether a section has the runtime's name
abbrev pub is_runtime : List ℕ → Section → Bool
is_runtime bytes section = is_section_named (codes ".PyRuntime") (section_name_of bytes section)

-- the first section of an image that is named `.PyRuntime`
abbrev pub runtime_section : List ℕ → Option Section
runtime_section bytes = find (is_runtime bytes) (sections_of bytes)

-- where it is; nothing where there is none, or its address passes the last one
abbrev pub runtime_range : Option Section → ℕ → ℕ × ℕ
runtime_range None offset = (0, 0)
runtime_range (Some section) offset =
    if nat_lt last_address (section.addr + offset) then (0, 0) else (section.addr + offset, section.size)

-- these are the ranges of an image that is mapped at an address
pub record AreRanges (bytes : List ℕ) (addr : ℕ) (ranges : Ranges) : Type 0 where
  pub held : HasSections bytes
  pub bss : Section
  pub is_bss : IsBss bytes (sections_of bytes) bss
  pub segment : Segment
  pub is_segment : executable_of bytes ≡ Some segment
  pub offset : ranges.offset ≡ moved_by addr segment
  pub bss_is : bss_range bss ranges.offset ≡ Some ranges.bss
  pub runtime_is : (ranges.runtime_addr, ranges.runtime_size) ≡ runtime_range (runtime_section bytes) ranges.offset
