-- The native stacks of the threads of status records.
use Rattle.std.specs.Prelude.{◌≡◌, ℕ, ◌-◌, ◌&&◌, nat_eq, nat_le, not, Bool, false, List, [], ◌∷◌, length, Option, Some}
use Rattle.std.specs.Prelude.{None, option_map}
use Rattle.elf64_core.specs.Fields.{u16_in}
use Rattle.elf64_core.specs.Notes.{Noted}
use Rattle.elf64_core.specs.declared.header.Machine.{Machine as ElfMachine}
use Rattle.frame_rows.specs.declared.row.Machine.{Machine}
use Rattle.process_memory.specs.Memory.{Memory}
use Rattle.core_unwind.specs.declared.place.Mapping.{Mapping}
use Rattle.core_unwind.specs.declared.state.State.{State}
use Rattle.core_unwind.specs.Told.{thread_state}
use Rattle.native_frames.specs.Limits.{frame_machine}
use Rattle.native_frames.specs.Threads.{StackPair, StackShown, stack_shown_if}
use Rattle.thread_registers.specs.Threads.{ThreadShown, thread_noted}
use Rattle.thread_registers.specs.declared.threads.PythonThread.{PythonThread}
use Rattle.thread_registers.specs.declared.threads.Whose.{Whose}
use Rattle.native_stacks.specs.declared.stacks.NativeThread.{NativeThread}

-- a thread
pub record NativeShown : Type 0 where
  pub system_id : ℕ
  pub whose : Whose
  pub is_crashed : Bool
  pub stack : Option StackShown
  pub guessed : Option StackShown

-- ---- threads

-- where a thread stands by its record, on a machine whose registers are told
abbrev pub state_by : Option Machine → List ℕ → Option (Machine × State)
state_by None status = None
state_by (Some machine) status = option_map (λ (s : State). (machine, s)) (thread_state machine status)

-- the stack of a thread and the one behind a guess; none where its registers are not told
abbrev pub HasStacks : List Mapping → (code_bits : ℕ) → Memory → (strict : Bool) → (left : ℕ) → Option (Machine × State)
    → Option StackShown → Option StackShown → Type 0
HasStacks mappings code_bits m strict left None stack guessed = (stack ≡ None) × (guessed ≡ None)
HasStacks mappings code_bits m strict left (Some s) stack guessed =
    (told : StackShown) × (stack ≡ Some told) × StackPair mappings s.0 code_bits m strict left s.1 (told, guessed)

-- the first status record is that of the thread that got the signal, where it names one
abbrev pub is_crash : (is_first : Bool) → List ℕ → Bool
is_crash is_first status = is_first && (nat_le 14 (length status) && not (nat_eq (u16_in status 12) 0))

-- a thread by its record, of which so much is known
pub record IsThread (machine : ElfMachine) (mappings : List Mapping) (code_bits : ℕ) (m : Memory)
    (strict is_first : Bool) (left : ℕ) (known : ThreadShown) (status : List ℕ) (t : NativeShown) : Type 0 where
  pub id : t.system_id ≡ known.system_id
  pub whose : t.whose ≡ known.whose
  pub crashed : t.is_crashed ≡ is_crash is_first status
  pub stacks : HasStacks mappings code_bits m strict left (state_by (frame_machine machine) status) t.stack t.guessed

-- how many frames a thread has
abbrev pub count_of : Option StackShown → ℕ
count_of None = 0
count_of (Some s) = length s.frames

-- how many frames are left to the process behind a thread
abbrev pub left_behind : (left : ℕ) → NativeShown → ℕ
left_behind left t = (left - count_of t.stack) - count_of t.guessed

-- the thread of a record, and then those of the records behind it
abbrev pub ThreadThen : Option ThreadShown → (ThreadShown → NativeShown → Type 0)
    → (Bool → ℕ → List NativeShown → Type 0) → (is_first : Bool) → (left : ℕ) → List NativeShown → Type 0
ThreadThen None here behind is_first left threads = behind is_first left threads
ThreadThen (Some known) here behind is_first left threads =
    (t : NativeShown) × (others : List NativeShown) × (threads ≡ t ∷ others) × here known t
    × behind false (left_behind left t) others

-- the threads of a process: one for each status record, in the order of the notes
unfoldable pub AreThreads : ElfMachine → List PythonThread → List Mapping → (code_bits : ℕ) → Memory
    → (strict : Bool) → List Noted
    → (is_first : Bool) → (left : ℕ) → List NativeShown → Type 0
AreThreads machine pythons mappings code_bits m strict [] is_first left threads = threads ≡ []
AreThreads machine pythons mappings code_bits m strict (note ∷ notes) is_first left threads =
    ThreadThen (thread_noted machine pythons note)
    (λ known t. IsThread machine mappings code_bits m strict is_first left known note.desc t)
    (AreThreads machine pythons mappings code_bits m strict notes) is_first left threads

-- ---- as it is read

-- the thread of a note, if that is a status record
abbrev pub IsThreadOf : ElfMachine → List Mapping → (code_bits : ℕ) → Memory → (strict is_first : Bool)
    → (left : ℕ) → List ℕ
    → Option ThreadShown → Option NativeShown → Type 0
IsThreadOf machine mappings code_bits m strict is_first left status None thread = thread ≡ None
IsThreadOf machine mappings code_bits m strict is_first left status (Some known) thread =
    (t : NativeShown) × (thread ≡ Some t) × IsThread machine mappings code_bits m strict is_first left known status t

-- whether the next thread is the first one
abbrev pub first_after : (is_first : Bool) → Option NativeShown → Bool
first_after is_first None = is_first
first_after is_first (Some t) = false

-- how many frames are left to the process behind a thread, where there is one
abbrev pub left_after : (left : ℕ) → Option NativeShown → ℕ
left_after left None = left
left_after left (Some t) = left_behind left t

-- a thread in plain terms
abbrev pub thread_shown : NativeThread → NativeShown
thread_shown t = record {
  system_id = t.system_id;
  whose = t.whose;
  is_crashed = t.is_crashed;
  stack = stack_shown_if t.stack;
  guessed = stack_shown_if t.guessed;
}

-- a thread in plain terms, where there is one
abbrev pub thread_shown_if : Option NativeThread → Option NativeShown
thread_shown_if t = option_map thread_shown t
