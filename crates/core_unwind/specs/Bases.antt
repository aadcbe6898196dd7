-- The caller by the frame pointer: a guess. That code which keeps one has its caller's there, and the return address
-- behind it, is a habit of compilers (System V psABI, AMD64, figure 3.3); that this code keeps one is guessed.
use Rattle.std.specs.Prelude.{◌≡◌, ℕ, ◌+◌, ◌%◌, ◌^◌, ◌==◌, ◌&&◌, nat_le, Bool, true, false, List, Option, Some, None}
use Rattle.std.specs.Prelude.{if◌then◌else◌, slice_set, replicate}
use Rattle.process_memory.specs.Memory.{Memory}
use Rattle.frame_rows.specs.declared.row.Machine.{Machine}
use Rattle.frame_rows.specs.declared.row.Machine.TheVariants.{X86_64, Aarch64}
use Rattle.core_unwind.specs.declared.mark.Going.{Going}
use Rattle.core_unwind.specs.declared.mark.Mark.TheVariants.{FramePointer}
use Rattle.core_unwind.specs.declared.place.Mapping.{Mapping}
use Rattle.core_unwind.specs.declared.state.State.{State}
use Rattle.core_unwind.specs.Expressions.{word_in}
use Rattle.core_unwind.specs.Guesses.{IsInCode, stack_top}
use Rattle.core_unwind.specs.Registers.{register_in}

-- not below the stack pointer, a multiple of 8, and the CFA grows
abbrev pub is_base : State → (top base : ℕ) → Bool
is_base s top base =
    nat_le top base && (base % 8 == 0 && (nat_le base 0xffff_ffff_ffff_ffef && nat_le s.least (base + 16)))

-- a word, where it may be the frame pointer of this thread
abbrev pub base_if : State → (top : ℕ) → Option ℕ → Option ℕ
base_if s top None = None
base_if s top (Some base) = if is_base s top base then Some base else None

-- what rbp has, where it may be a frame pointer: not below this top of the stack
abbrev pub base_in : State → (top : ℕ) → Option ℕ
base_in s top = base_if s top (register_in s.registers 6)

-- the frame pointer of x86-64 by the stack pointer; none where that is not known
abbrev pub base_by : State → Option ℕ → Option ℕ
base_by s None = None
base_by s (Some top) = base_in s top

-- the frame pointer, where it may be one: on x86-64 alone
abbrev pub base_of : Machine → State → Option ℕ
base_of X86_64 s = base_by s (stack_top X86_64 s)
base_of Aarch64 s = None

-- of the other registers nothing is known
abbrev pub based_on : State → (base word : ℕ) → (before : Option ℕ) → Going
based_on s base word before = record {
  cfa = (base + 16) % 2 ^ 64;
  is_signal = false;
  mark = FramePointer;
  caller = record {
    pc = word;
    is_exact = false;
    registers = slice_set (slice_set (replicate 32 None) 6 before) 7 (Some ((base + 16) % 2 ^ 64));
    least = (base + 16) % 2 ^ 64 + 1;
    signals = s.signals;
    bytes = s.bytes;
  };
}

-- how a frame goes on, where its return address is code
abbrev pub going_if : Bool → Going → Option Going
going_if true going = Some going
going_if false going = None

-- by a word that may be the return address
pub record IsBasedOn (mappings : List Mapping) (m : Memory) (s : State) (base word : ℕ) (going : Option Going)
    : Type 0 where
  pub is_code : Bool
  pub in_code : IsInCode mappings word is_code
  pub is : going ≡ going_if is_code (based_on s base word (word_in m base))

-- by the word behind the saved frame pointer; no guess where it is not in memory
abbrev pub IsBasedBy : List Mapping → Memory → State → (base : ℕ) → Option ℕ → Option Going → Type 0
IsBasedBy mappings m s base None going = going ≡ None
IsBasedBy mappings m s base (Some word) going = IsBasedOn mappings m s base word going

-- by the frame pointer, 8 bytes behind which the return address is; no guess where there is none
abbrev pub IsBasedAt : List Mapping → Memory → State → Option ℕ → Option Going → Type 0
IsBasedAt mappings m s None going = going ≡ None
IsBasedAt mappings m s (Some base) going = IsBasedBy mappings m s base (word_in m ((base + 8) % 2 ^ 64)) going

-- how a frame goes on by its frame pointer
abbrev pub IsBased : List Mapping → Machine → Memory → State → Option Going → Type 0
IsBased mappings machine m s going = IsBasedAt mappings m s (base_of machine s) going
