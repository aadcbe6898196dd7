-- Where the bytes of an address stand in a file, by the System V gABI: a load segment's file bytes begin at its
-- address. Where two segments hold an address, the first one is taken: this project's rule.
use Rattle.std.specs.Prelude.{ℕ, ◌+◌, ◌-◌, ◌≤◌, nat_eq, nat_le, nat_lt, ◌&&◌, Bool, List, length, if◌then◌else◌}
use Rattle.std.specs.Prelude.{Option, Some, None, option_and_then}
use Rattle.std.specs.List.{find}
use Rattle.elf64_core.specs.Header.{load_kind, segments_of}
use Rattle.elf64_core.specs.declared.segment.Segment.{Segment}
use Rattle.frame_tables.specs.declared.part.Part.{Part}

-- a load segment's bytes in the file hold an address
abbrev pub holds_address : ℕ → Segment → Bool
holds_address address s = nat_eq s.kind load_kind && (nat_le s.addr address && nat_lt (address - s.addr) s.file_size)

-- the part of a file of so many bytes that a segment has from an address on, where the file has it
abbrev pub part_in : ℕ → ℕ → Segment → Option Part
part_in size address s =
    if nat_le (s.offset + s.file_size) size then
    Some (record { start = s.offset + (address - s.addr); end = s.offset + s.file_size })
    else None

-- where the bytes of an address stand
abbrev pub part_at : List ℕ → ℕ → Option Part
part_at file address = option_and_then (part_in (length file) address) (find (holds_address address) (segments_of file))

-- a part of so many bytes
pub record IsWithin (size : ℕ) (p : Part) : Type 0 where
  pub begins : p.start ≤ p.end
  pub ends : p.end ≤ size
