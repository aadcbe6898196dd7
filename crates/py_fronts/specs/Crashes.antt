-- The thread that got the signal of a process. That a thread pointer of x86-64 (`fs_base`) is the id that the
-- interpreter gave is glibc's `pthread_self`.
use Rattle.std.specs.Prelude.{ℕ, nat_eq, nat_lt, Bool, true, false, if◌then◌else◌, List, length, Option, Some, None}
use Rattle.elf64_core.specs.Fields.{u16_in, u32_in, u64_in}
use Rattle.elf64_core.specs.declared.header.Machine.{Machine}
use Rattle.elf64_core.specs.declared.header.Machine.TheVariants.{X86_64}
use Rattle.py_fronts.specs.declared.thread_front.ThreadFront.{ThreadFront}
use Rattle.py_fronts.specs.declared.crash.Crash.{Crash}
use Rattle.py_fronts.specs.Ids.{names_thread}

-- where the signal, the thread's id and, on x86-64, the thread pointer stand in a status record (Linux's elf_prstatus
-- of 64-bit processes, in which the registers of x86-64 begin at 112)
abbrev pub signal_place : ℕ
signal_place = 12

-- where a status record has the thread's id, `pr_pid` of Linux's `elf_prstatus`
abbrev pub pid_place : ℕ
pid_place = 32

-- where a status record of x86-64 has the thread pointer, `fs_base` among the registers `pr_reg`
abbrev pub fs_base_place : ℕ
fs_base_place = 280

-- the thread pointer of a long enough status record of x86-64; none of another machine
abbrev pub fs_base_of : Machine → List ℕ → Option ℕ
fs_base_of X86_64 status = Some (u64_in status fs_base_place)
fs_base_of _ status = None

-- the thread pointer of a status record, where it has the registers of x86-64
abbrev pub thread_pointer : Machine → List ℕ → Option ℕ
thread_pointer machine status = if nat_lt (length status) 288 then None else fs_base_of machine status

-- a thread by the id and the thread pointer of its status record
abbrev pub status_thread : Machine → List ℕ → Crash
status_thread machine status =
    record { native_id = Some (u32_in status pid_place); thread_pointer = thread_pointer machine status }

-- the thread that a status record is of, where its signal isn't 0
abbrev pub crash_of : Machine → List ℕ → Option Crash
crash_of machine status =
    if nat_eq (u16_in status signal_place) 0 then None else Some (status_thread machine status)

-- an id is told, and names the thread of this id
abbrev pub is_id : Option ℕ → ℕ → Bool
is_id None id = false
is_id (Some told) id = names_thread told id

-- whether both ids are there, the one that is told and the thread's own of the system, and the first names the second
abbrev pub is_native : Option ℕ → Option ℕ → Bool
is_native told None = false
is_native told (Some id) = is_id told id

-- a thread is the one that got the signal: the thread pointer is its id, or the system's id is its own
abbrev pub is_crashed : Option Crash → ThreadFront → Bool
is_crashed None t = false
is_crashed (Some crash) t =
    if is_id crash.thread_pointer t.thread_id then true else is_native crash.native_id t.os_thread_id
