-- Common information entries, by the LSB's page on exception frames for version 1, and by DWARF 5, section 6.4.1, and
-- DWARF 3 for the versions 4 and 3. That other versions, and other sizes of addresses, are refused is this project's
-- rule, and so are the two encodings of addresses.
use Rattle.std.specs.Prelude.{ℕ, ◌+◌, nat_lt, ◌||◌, ◌==◌, List, drop, slice_range, if◌then◌else◌}
use Rattle.std.specs.Prelude.{Option, Some, None, Result, Ok, Err}
use Rattle.std.specs.List.{position}
use Rattle.elf64_core.specs.Nul.{is_nul}
use Rattle.frame_tables.specs.declared.augmentation.Augmentation.{Augmentation}
use Rattle.frame_tables.specs.declared.common.Common.{Common}
use Rattle.frame_tables.specs.declared.common.Factors.{Factors}
use Rattle.frame_tables.specs.declared.field.Field.{Field}
use Rattle.frame_tables.specs.declared.flaw.RecordFlaw.{RecordFlaw}
use Rattle.frame_tables.specs.declared.flaw.RecordFlaw.TheVariants.{Cut, NotCommon, Version, AddressSize, SegmentSize}
use Rattle.frame_tables.specs.declared.flaw.RecordFlaw.TheVariants.{Encoding}
use Rattle.frame_tables.specs.Fields.{read_then, byte_at, u32_at, unsigned_at, signed_at}
use Rattle.frame_tables.specs.Augmentations.{augmentation_at}

-- a version that is read
abbrev pub version_of : ℕ → Result ℕ RecordFlaw
version_of version = if version == 1 || version == 3 || version == 4 then Ok version else Err (Version version)

-- the version, behind an id of 0
abbrev pub version_in : List ℕ → Result ℕ RecordFlaw
version_in body = read_then (u32_at body 0) (λ id.
    if id == 0 then read_then (byte_at body 4) version_of else Err NotCommon)

-- where the text ends, from the front of the record, where a nul ends it
abbrev pub end_of : Option ℕ → Result ℕ RecordFlaw
end_of None = Err Cut
end_of (Some size) = Ok (5 + size)

-- where the text behind the version ends
abbrev pub text_end : List ℕ → Result ℕ RecordFlaw
text_end body = end_of (position is_nul (drop 5 body))

-- the sizes of addresses and segments, in version 4
abbrev pub sizes_behind : List ℕ → (version at : ℕ) → Result ℕ RecordFlaw
sizes_behind body version at =
    if nat_lt version 4 then Ok at
    else read_then (byte_at body at) (λ address.
    if address == 8 then read_then (byte_at body (at + 1)) (λ segment.
    if segment == 0 then Ok (at + 2) else Err (SegmentSize segment))
    else Err (AddressSize address))

-- the register of the return address
abbrev pub register_at : List ℕ → (version at : ℕ) → Result Field RecordFlaw
register_at body version at =
    if nat_lt 1 version then unsigned_at body at
    else read_then (byte_at body at) (λ register. Ok (record { value = register; next = at + 1 }))

-- code alignment, data alignment and that register
abbrev pub factors_at : List ℕ → (version at : ℕ) → Result Factors RecordFlaw
factors_at body version at =
    read_then (unsigned_at body at) (λ code.
    read_then (signed_at body code.next) (λ factor.
    read_then (register_at body version factor.next) (λ register.
    Ok (record { code = code.value; factor = factor.value; register = register.value; next = register.next }))))

-- absolute in four bytes, or relative to their own place in four with a sign
abbrev pub admitted : Factors → Augmentation → Result Common RecordFlaw
admitted factors said =
    if said.encoding == 3 || said.encoding == 27 then Ok (record { factors = factors; said = said })
    else Err (Encoding said.encoding)

-- what stands behind the text of an augmentation
abbrev pub common_behind : List ℕ → (version end : ℕ) → Result Common RecordFlaw
common_behind body version end =
    read_then (sizes_behind body version (end + 1)) (λ at.
    read_then (factors_at body version at) (λ factors.
    read_then (augmentation_at body (slice_range body 5 end) factors.next) (admitted factors)))

-- a common information entry
abbrev pub common_in : List ℕ → Result Common RecordFlaw
common_in body = read_then (version_in body) (λ version. read_then (text_end body) (common_behind body version))
