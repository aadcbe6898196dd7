-- How the signal came about that ended a process, by the notes of its core. The record is Linux' siginfo_t
-- (include/uapi/asm-generic/siginfo.h), which is laid out alike on x86-64 and aarch64; what its code makes of the rest
-- is `siginfo_layout` of kernel/signal.c. That a record is short where it hasn't all that is read of it, and that one
-- of another signal than the first status record's tells nothing, are this project's own rules.
use Rattle.std.specs.Prelude.{ℕ, ℤ, pos, negsuc, nat_lt, ◌&&◌, ◌||◌, Bool, false, if◌then◌else◌, List, length}
use Rattle.std.specs.Prelude.{Option, Some, None, option_and_then, Result, Ok, Err}
use Rattle.std.specs.Ordering.{int_eq, int_cmp, is_lt}
use Rattle.elf64_core.specs.Fields.{u32_in, u64_in}
use Rattle.elf64_core.specs.Notes.{Noted}
use Rattle.image_memory.specs.Notes.{cursig_place, desc_of, i16_in, i32_in, status_kind}
use Rattle.crash_signal.specs.declared.told.Cause.{Cause}
use Rattle.crash_signal.specs.declared.told.Cause.TheVariants.{Itself, Process, Fault, NoAddress, System, Call, Code}
use Rattle.crash_signal.specs.declared.told.CrashSignal.{CrashSignal}
use Rattle.crash_signal.specs.declared.told.Untold.{Untold}
use Rattle.crash_signal.specs.declared.told.Untold.TheVariants.{NoSignal, NoNote, Short, Other}

-- the type of a note that is a signal's record (NT_SIGINFO)
abbrev pub siginfo_kind : ℕ
siginfo_kind = 0x53494749

-- where si_signo, si_code, and behind them the union's fields stand: si_pid and si_uid of a sender, si_addr of a fault,
-- si_call_addr and si_syscall of a call
abbrev pub signo_place : ℕ
signo_place = 0

-- where the note of the signal has its code, in bytes (`si_code` of `siginfo_t`, Linux)
abbrev pub code_place : ℕ
code_place = 8

-- where it has the id of the process that sent the signal (`si_pid`)
abbrev pub sender_place : ℕ
sender_place = 16

-- where it has that process's user (`si_uid`)
abbrev pub user_place : ℕ
user_place = 20

-- where it has the address of a fault (`si_addr`)
abbrev pub address_place : ℕ
address_place = 16

-- where it has the number of the system call of SIGSYS (`si_syscall`)
abbrev pub call_place : ℕ
call_place = 24

-- SI_USER, SI_QUEUE, SI_TKILL: a process sent it
unfoldable pub is_sent : ℤ → Bool
is_sent code = int_eq code (pos 0) || int_eq code (negsuc 0) || int_eq code (negsuc 5)

-- SI_KERNEL: the system did, and fills in nothing
unfoldable pub is_system : ℤ → Bool
is_system code = int_eq code (pos 128)

-- SIGBUS and SIGSEGV: the signals of an access
abbrev pub is_access : ℤ → Bool
is_access signal = int_eq signal (pos 7) || int_eq signal (pos 11)

-- the signals that stand with an address: these, and SIGILL, SIGTRAP and SIGFPE
unfoldable pub is_fault : ℤ → Bool
is_fault signal =
    is_access signal || int_eq signal (pos 4) || int_eq signal (pos 5) || int_eq signal (pos 8)

-- the codes that do: those above SI_USER and below SI_KERNEL
unfoldable pub has_address : ℤ → ℤ → Bool
has_address signal code = is_fault signal && is_lt (int_cmp (pos 0) code) && is_lt (int_cmp code (pos 128))

-- SIGSYS with SYS_SECCOMP: a filter refused a call
unfoldable pub is_call : ℤ → ℤ → Bool
is_call signal code = int_eq signal (pos 31) && int_eq code (pos 1)

-- the process's own id is told, and is this one
abbrev pub is_own : Option ℤ → ℤ → Bool
is_own None pid = false
is_own (Some own) pid = int_eq own pid

-- who sent the signal: the process itself, or another one
abbrev pub sender_of : Bool → ℤ → ℕ → Cause
sender_of own pid uid = if own then Itself pid uid else Process pid uid

-- who sent it, by the first 24 bytes
unfoldable pub sender_in : Option ℤ → List ℕ → Option Cause
sender_in own info = if nat_lt (length info) 24 then None
    else Some (sender_of (is_own own (i32_in info sender_place)) (i32_in info sender_place) (u32_in info user_place))

-- the address that was wrong, by the first 24 bytes
unfoldable pub fault_in : List ℕ → Option Cause
fault_in info = if nat_lt (length info) 24 then None else Some (Fault (u64_in info address_place))

-- the call that was refused, by the first 28 bytes
unfoldable pub call_in : List ℕ → Option Cause
call_in info = if nat_lt (length info) 28 then None
    else Some (Call (u64_in info address_place) (i32_in info call_place))

-- a signal of the kernel without an address, where it is one of an access, else of the kernel
abbrev pub system_cause : ℤ → Cause
system_cause signal = if is_access signal then NoAddress else System

-- what a record says, by its code first
unfoldable pub cause_in : Option ℤ → (signal code : ℤ) → List ℕ → Option Cause
cause_in own signal code info =
    if is_sent code then sender_in own info
    else if is_system code then Some (system_cause signal)
    else if has_address signal code then fault_in info
    else if is_call signal code then call_in info
    else Some Code

-- what is told of a signal; that the note is too short where it has no cause
abbrev pub told_or_short : (signal code : ℤ) → Option Cause → Result CrashSignal Untold
told_or_short signal code None = Err Short
told_or_short signal code (Some cause) = Ok (record { signal = signal; code = code; cause = cause })

-- what a record of at least 12 bytes says of a signal, which has to be its own
unfoldable pub told_in : Option ℤ → ℤ → List ℕ → Result CrashSignal Untold
told_in own signal info =
    if int_eq (i32_in info signo_place) signal
    then told_or_short signal (i32_in info code_place) (cause_in own signal (i32_in info code_place) info)
    else Err (Other (i32_in info signo_place))

-- what a record says of a signal
abbrev pub info_told : Option ℤ → ℤ → List ℕ → Result CrashSignal Untold
info_told own signal info = if nat_lt (length info) 12 then Err Short else told_in own signal info

-- the number of a signal; 0 says that there was none
abbrev pub signal_or_none : ℤ → Option ℤ
signal_or_none signal = if int_eq signal (pos 0) then None else Some signal

-- the signal of a status record, where it has one
abbrev pub signal_of_status : List ℕ → Option ℤ
signal_of_status status =
    if nat_lt (length status) 14 then None else signal_or_none (i16_in status cursig_place)

-- the signal of the first status record
abbrev pub ended_by : List Noted → Option ℤ
ended_by notes = option_and_then signal_of_status (desc_of status_kind notes)

-- what a core tells of its signal, by the first status record and the note of the signal
abbrev pub told_of : Option ℤ → Option ℤ → Option (List ℕ) → Result CrashSignal Untold
told_of own None info = Err NoSignal
told_of own (Some signal) None = Err NoNote
told_of own (Some signal) (Some info) = info_told own signal info

-- how the signal came about that ended a process of this id, by the notes of its core: the first status record's
-- signal, and the first record of a signal
abbrev pub signal_told : Option ℤ → List Noted → Result CrashSignal Untold
signal_told own notes = told_of own (ended_by notes) (desc_of siginfo_kind notes)
