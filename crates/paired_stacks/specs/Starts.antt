-- The stack pointers of the threads of a core, by its status records (`elf_prstatus` of Linux's `linux/elfcore.h`).
use Rattle.std.specs.Prelude.{ℕ, nat_le, ◌&&◌, if◌then◌else◌, List, length, filter_map, Option, Some, None}
use Rattle.elf64_core.specs.Notes.{Noted}
use Rattle.elf64_core.specs.declared.header.Machine.{Machine as ElfMachine}
use Rattle.frame_rows.specs.declared.row.Machine.{Machine}
use Rattle.image_memory.specs.Notes.{is_of_kind, status_kind}
use Rattle.core_unwind.specs.Registers.{register_in, stack_pointer}
use Rattle.core_unwind.specs.Told.{thread_state}
use Rattle.core_unwind.specs.declared.state.State.{State}
use Rattle.native_frames.specs.Limits.{frame_machine}

-- the stack pointer of a thread's state, where it is told
abbrev pub pointer_in : Machine → Option State → Option ℕ
pointer_in machine (Some s) = register_in s.registers (stack_pointer machine)
pointer_in machine None = None

-- that of a thread, by its record
abbrev pub start_by : Machine → List ℕ → Option ℕ
start_by machine status = pointer_in machine (thread_state machine status)

-- the stack pointer by a status record, on a machine whose registers are told
abbrev pub start_if : Option Machine → List ℕ → Option ℕ
start_if (Some machine) status = start_by machine status
start_if None status = None

-- the stack pointer by a status record, on the machine of the core
abbrev pub start_in : ElfMachine → List ℕ → Option ℕ
start_in machine status = start_if (frame_machine machine) status

-- what a note says, if it is a status record
unfoldable pub start_noted : ElfMachine → Noted → Option (Option ℕ)
start_noted machine note = if is_of_kind status_kind note && nat_le 112 (length note.desc)
    then Some (start_in machine note.desc) else None

-- of each status record, in order
abbrev pub starts_of : ElfMachine → List Noted → List (Option ℕ)
starts_of machine notes = filter_map (start_noted machine) notes
