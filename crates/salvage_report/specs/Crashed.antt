-- The thread that got the signal of a process, by its core. That the first status record is that thread's is Linux's
-- order of notes.
use Rattle.std.specs.Prelude.{◌≡◌, ℕ, nat_lt, if◌then◌else◌, List, length, Option, None, option_and_then}
use Rattle.elf64_core.specs.Header.{machine_of}
use Rattle.elf64_core.specs.Notes.{Noted}
use Rattle.elf64_core.specs.declared.header.Machine.{Machine}
use Rattle.image_memory.specs.Notes.{AreNotesOfCore, desc_of, status_kind}
use Rattle.py_fronts.specs.Crashes.{crash_of}
use Rattle.py_fronts.specs.declared.crash.Crash.{Crash}

-- the thread that a status record is of, where it has all its bytes
abbrev pub told_by : Machine → List ℕ → Option Crash
told_by machine status = if nat_lt (length status) 112 then None else crash_of machine status

-- the thread of the first status record among some notes
abbrev pub crash_among : Machine → List Noted → Option Crash
crash_among machine notes = option_and_then (told_by machine) (desc_of status_kind notes)

-- the notes of a core tell this thread, or none
pub record CrashTold (bytes : List ℕ) (crash : Option Crash) : Type 0 where
  pub notes : List Noted
  pub are : AreNotesOfCore bytes notes
  pub says : crash ≡ crash_among (machine_of bytes) notes
