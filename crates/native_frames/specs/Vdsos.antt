-- Where the vdso is mapped, by the auxiliary vector (`NT_AUXV` of `elf.h`: pairs of a key and a value, of 8 bytes each;
-- AT_SYSINFO_EHDR is 33), and its bytes, which the core has. That at most 65536 are looked at is this project's rule.
use Rattle.std.specs.Prelude.{◌≡◌, ℕ, zero, suc, ◌+◌, ◌*◌, ◌/◌, ◌==◌, if◌then◌else◌, List, length, Option, Some, None}
use Rattle.std.specs.Prelude.{option_and_then, slice_range}
use Rattle.elf64_core.specs.Fields.{u64_in}
use Rattle.elf64_core.specs.Notes.{Noted}
use Rattle.image_memory.specs.Notes.{desc_of}
use Rattle.image_memory.specs.Pieces.{core_ranges, memory_of}
use Rattle.piece_table.specs.Places.{IsRun}
use Rattle.process_memory.specs.Memory.{byte_at}
use Rattle.native_frames.specs.declared.vdso.Vdso.{Vdso}

-- the value of the first of so many entries from a number on that has the key
abbrev pub base_from : List ℕ → (number count : ℕ) → Option ℕ
base_from vector number zero = None
base_from vector number (suc count) =
    if u64_in vector (16 * number) == 33 then Some (u64_in vector (16 * number + 8))
    else base_from vector (number + 1) count

-- the address that an auxiliary vector has for the vdso (`AT_SYSINFO_EHDR`)
abbrev pub base_of : List ℕ → Option ℕ
base_of vector = base_from vector 0 (length vector / 16)

-- where the vdso is mapped, by the first auxiliary vector
abbrev pub vdso_base : List Noted → Option ℕ
vdso_base notes = option_and_then base_of (desc_of 6 notes)

-- the longest run of bytes from there on that follow each other in the core
abbrev pub IsVdsoOf : List ℕ → (base : ℕ) → Option (ℕ × List ℕ) → Type 0
IsVdsoOf core base None = byte_at (memory_of core) base ≡ None
IsVdsoOf core base (Some v) = (v.0 ≡ base) × (start : ℕ)
    × IsRun (core_ranges core) base 65536 0 start (length v.1) × (v.1 ≡ slice_range core start (start + length v.1))
    × (byte_at (memory_of core) base ≡ None → ⊥)

-- the vdso at an address that may not be known; none where it is not
abbrev pub IsVdsoFor : List ℕ → Option ℕ → Option (ℕ × List ℕ) → Type 0
IsVdsoFor core None vdso = vdso ≡ None
IsVdsoFor core (Some base) vdso = IsVdsoOf core base vdso

-- where the vdso is mapped, and its bytes, where the core has them
abbrev pub IsVdsoIn : List ℕ → List Noted → Option (ℕ × List ℕ) → Type 0
IsVdsoIn core notes vdso = IsVdsoFor core (vdso_base notes) vdso

-- ---- as it is read

-- the address of the vdso and its bytes, in plain terms
abbrev pub vdso_shown : Option Vdso → Option (ℕ × List ℕ)
vdso_shown None = None
vdso_shown (Some v) = Some (v.base, v.bytes.now)
