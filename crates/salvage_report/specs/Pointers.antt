-- The thread pointers of a process, by the status records of its core: Linux's elf_prstatus of 64-bit processes, which
-- has those of x86-64 (`fs_base`). That a record has 112 bytes at least is this project's rule.
use Rattle.std.specs.Prelude.{◌≡◌, ℕ, nat_le, ◌&&◌, if◌then◌else◌, List, filter_map, length, Option, None}
use Rattle.elf64_core.specs.Header.{machine_of}
use Rattle.elf64_core.specs.Notes.{Noted}
use Rattle.elf64_core.specs.declared.header.Machine.{Machine}
use Rattle.image_memory.specs.Notes.{AreNotesOfCore, is_of_kind, status_kind}
use Rattle.py_fronts.specs.Crashes.{thread_pointer}

-- the thread pointer that a note tells, if it is a status record with the registers of x86-64
unfoldable pub pointer_noted : Machine → Noted → Option ℕ
pointer_noted machine note =
    if is_of_kind status_kind note && nat_le 112 (length note.desc) then thread_pointer machine note.desc else None

-- those that some notes tell, in their order
abbrev pub pointers_of : Machine → List Noted → List ℕ
pointers_of machine notes = filter_map (pointer_noted machine) notes

-- the notes of a core tell these thread pointers
pub record PointersTold (bytes : List ℕ) (pointers : List ℕ) : Type 0 where
  pub notes : List Noted
  pub are : AreNotesOfCore bytes notes
  pub says : pointers ≡ pointers_of (machine_of bytes) notes
