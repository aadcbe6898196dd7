-- Where an interpreter of a version has what, in bytes from `_PyRuntime` on. These numbers are this project's
-- own; that a real CPython has them is trusted.
use Rattle.std.specs.Prelude.{ℕ, ◌==◌, nat_le, if◌then◌else◌, Bool, false, Option, Some, None, List, bytes_eq, codes}
use Rattle.std.specs.Prelude.{encode_utf8_all}
use Rattle.std.specs.Int.{is_in_range}
use Rattle.elf64_core.specs.declared.header.Machine.{Machine}
use Rattle.elf64_core.specs.declared.header.Machine.TheVariants.{X86_64, Aarch64, Other}
use Rattle.py_fields.specs.declared.version.Version.{Version}

-- where the address of the newest interpreter lies, by the minor of major 3
abbrev pub head_of_3 : ℕ → ℕ
head_of_3 minor = if is_in_range 8 10 minor then 32 else (if is_in_range 11 12 minor then 40 else 24)

-- where `_PyRuntime` has the newest interpreter's address, in bytes (`_PyRuntimeState.interpreters.head`)
unfoldable pub interp_head_offset : Version → ℕ
interp_head_offset v = if v.major == 3 then head_of_3 v.minor else 24

-- a build of 3.8 whose records are larger
abbrev pub is_cinder : Option (List ℕ) → Bool
is_cinder None = false
is_cinder (Some metadata) = bytes_eq (encode_utf8_all metadata) (codes "cinder")

-- a column of the table: for 3.7, for 3.8, for 3.9 and 3.10, and for 3.11
abbrev pub by_minor : ℕ → ℕ → ℕ → ℕ → ℕ → Option ℕ
by_minor of_7 of_8 of_9 of_11 minor =
    if minor == 7 then Some of_7 else (if minor == 8 then Some of_8
    else (if is_in_range 9 10 minor then Some of_9 else (if minor == 11 then Some of_11 else None)))

-- where the address of the current thread lies, by a version of major 3
abbrev pub current_of_3 : Machine → Version → Option ℕ
current_of_3 X86_64 v = by_minor (if nat_le v.patch 3 then 1392 else 1480)
    (if is_cinder v.build_metadata then 1384 else 1368) 568 576 v.minor
current_of_3 Aarch64 v = by_minor (if nat_le v.patch 3 then 1408 else 1496) 1384 584 592 v.minor
current_of_3 Other v = None

-- where `_PyRuntime` has the current thread's address, in bytes, up to 3.11 (`gilstate.tstate_current`)
unfoldable pub tstate_current_offset : Machine → Version → Option ℕ
tstate_current_offset machine v = if v.major == 3 then current_of_3 machine v else None
