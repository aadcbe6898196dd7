-- The threads of a process by the status records of its core: Linux' elf_prstatus of 64-bit processes, in which the
-- registers follow one another from 112 on, 8 bytes each. A record has 336 bytes on x86-64 and 392 on aarch64; that
-- one of fewer has no registers is this project's own rule, as that a record has 112 at least (`IsWhole`).
use Rattle.std.specs.Prelude.{ℕ, ◌+◌, nat_le, nat_lt, ◌&&◌, Bool, if◌then◌else◌, List, [], ◌∷◌, length, map, filter_map}
use Rattle.std.specs.Prelude.{position, slice_get, Option, Some, None, is_none, is_some, option_and_then}
use Rattle.std.specs.Prelude.{option_map, Vec, false}
use Rattle.std.specs.Global.{Global}
use Rattle.elf64_core.specs.Fields.{u32_in, u64_in}
use Rattle.elf64_core.specs.Notes.{Noted}
use Rattle.elf64_core.specs.declared.header.Machine.{Machine}
use Rattle.elf64_core.specs.declared.header.Machine.TheVariants as machine
use Rattle.image_memory.specs.Notes.{is_of_kind, status_kind, status_pid_place}
use Rattle.py_fronts.specs.declared.crash.Crash.{Crash}
use Rattle.py_fronts.specs.Crashes.{is_id, is_native, status_thread}
use Rattle.thread_registers.specs.declared.threads.PythonMatch.{PythonMatch}
use Rattle.thread_registers.specs.declared.threads.PythonThread.{PythonThread}
use Rattle.thread_registers.specs.declared.threads.Register.{Register}
use Rattle.thread_registers.specs.declared.threads.ThreadRegisters.{ThreadRegisters}
use Rattle.thread_registers.specs.declared.threads.Whose.{Whose}
use Rattle.thread_registers.specs.declared.threads.Whose.TheVariants.{Python, Other, Untold}
use Rattle.thread_registers.specs.Names.{aarch64_names, x86_64_names}

-- a register with its name
pub record Named : Type 0 where
  pub name : List ℕ
  pub value : ℕ

-- a thread, by its status record
pub record ThreadShown : Type 0 where
  pub system_id : ℕ
  pub whose : Whose
  pub registers : Option (List Named)

-- ---- registers

-- where the first one stands
abbrev pub registers_place : ℕ
registers_place = 112

-- registers of these names, which follow one another from a place on
unfoldable pub named_from : List (List ℕ) → List ℕ → ℕ → List Named
named_from [] status at = []
named_from (name ∷ names) status at =
    record { name = name; value = u64_in status at } ∷ named_from names status (at + 8)

-- those of a record of so many bytes at least
abbrev pub registers_from : ℕ → List (List ℕ) → List ℕ → Option (List Named)
registers_from size names status =
    if nat_lt (length status) size then None else Some (named_from names status registers_place)

-- the registers of a status record, by its machine
abbrev pub registers_in : Machine → List ℕ → Option (List Named)
registers_in machine.X86_64 status = registers_from 336 x86_64_names status
registers_in machine.Aarch64 status = registers_from 392 aarch64_names status
registers_in machine.Other status = None

-- ---- whose they are

-- by the thread pointer where it is told, else by the system's id
abbrev pub is_told_by : Option ℕ → Option ℕ → PythonThread → Bool
is_told_by None native t = is_native native t.native_id
is_told_by (Some pointer) native t = is_id (Some pointer) t.thread_id

-- a thread of Python's is the one that a record is of
abbrev pub is_python : Crash → PythonThread → Bool
is_python thread t = is_told_by thread.thread_pointer thread.native_id t

-- the thread of Python's at an index, and its id
abbrev pub match_at : List PythonThread → ℕ → Option PythonMatch
match_at pythons index =
    option_map (λ (t : PythonThread). record { index = index; thread_id = t.thread_id }) (slice_get pythons index)

-- the first one that is
abbrev pub python_of : List PythonThread → Crash → Option PythonMatch
python_of pythons thread = option_and_then (match_at pythons) (position (λ t. is_python thread t) pythons)

-- it can't be told that none is: the thread pointer isn't told, nor the system's id of each
abbrev pub is_untold : Option ℕ → List PythonThread → Bool
is_untold None pythons = is_some (position (λ t. is_none t.native_id) pythons)
is_untold (Some pointer) pythons = false

-- whose a thread is: Python's where one was found, else another's, or that can't be told
abbrev pub whose_by : Option PythonMatch → Bool → Whose
whose_by (Some found) untold = Python found
whose_by None untold = if untold then Untold else Other

-- whose the thread of a record is
unfoldable pub whose_of : List PythonThread → Crash → Whose
whose_of pythons thread = whose_by (python_of pythons thread) (is_untold thread.thread_pointer pythons)

-- ---- threads

-- what a status record says of its thread
unfoldable pub thread_in : Machine → List PythonThread → List ℕ → ThreadShown
thread_in machine pythons status = record {
  system_id = u32_in status status_pid_place;
  whose = whose_of pythons (status_thread machine status);
  registers = registers_in machine status;
}

-- what a note says, if it is a status record
unfoldable pub thread_noted : Machine → List PythonThread → Noted → Option ThreadShown
thread_noted machine pythons note = if is_of_kind status_kind note && nat_le 112 (length note.desc)
    then Some (thread_in machine pythons note.desc) else None

-- the threads of a process: one for each status record, in the order of the notes
abbrev pub threads_told : Machine → List PythonThread → List Noted → List ThreadShown
threads_told machine pythons notes = filter_map (thread_noted machine pythons) notes

-- ---- as they are read

-- a register with its name, in plain terms
abbrev pub named_of : Register → Named
named_of r = record { name = r.name.now; value = r.value }

-- a thread's registers in plain terms, where there are some
abbrev pub registers_shown : Option (Vec Register Global) → Option (List Named)
registers_shown registers = option_map (λ (rs : Vec Register Global). map named_of rs.items) registers

-- a thread in plain terms
abbrev pub thread_shown : ThreadRegisters → ThreadShown
thread_shown t = record {
  system_id = t.system_id;
  whose = t.whose;
  registers = registers_shown t.registers;
}
