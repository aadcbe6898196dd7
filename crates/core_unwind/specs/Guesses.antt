-- Who called, where a thread jumped to no code: a guess. That a call puts its return address on top of the stack, or
-- into x30, is the machine's (Intel SDM, CALL; Arm ARM, BLR); that there was a call is guessed.
use Rattle.std.specs.Prelude.{◌≡◌, ℕ, ◌+◌, ◌-◌, ◌%◌, ◌^◌, Bool, true, false, List, Option, Some, None, Result, Ok}
use Rattle.std.specs.Prelude.{Err, slice_set}
use Rattle.process_memory.specs.Memory.{Memory}
use Rattle.frame_rows.specs.declared.row.Machine.{Machine}
use Rattle.frame_rows.specs.declared.row.Machine.TheVariants.{X86_64, Aarch64}
use Rattle.core_unwind.specs.declared.end.End.{End}
use Rattle.core_unwind.specs.declared.place.Mapping.{Mapping}
use Rattle.core_unwind.specs.declared.state.State.{State}
use Rattle.core_unwind.specs.Expressions.{word_in}
use Rattle.core_unwind.specs.Places.{IsSpot, Site}
use Rattle.core_unwind.specs.Registers.{register_in, stack_pointer}

-- the stack pointer of a thread, where it is known
abbrev pub stack_top : Machine → State → Option ℕ
stack_top machine s = register_in s.registers (stack_pointer machine)

-- the return address of a call that was the last thing that the thread did
abbrev pub return_word : Machine → Memory → State → (top : ℕ) → Option ℕ
return_word X86_64 m s top = word_in m top
return_word Aarch64 m s top = register_in s.registers 30

-- the stack pointer behind the return from it
abbrev pub top_behind : Machine → ℕ → ℕ
top_behind X86_64 top = (top + 8) % 2 ^ 64
top_behind Aarch64 top = top

-- the caller's state at this return address, with the stack pointer behind the return; the rest as it was
abbrev pub guessed_caller : Machine → State → (top word : ℕ) → State
guessed_caller machine s top word = record {
  pc = word;
  is_exact = false;
  registers = slice_set s.registers (stack_pointer machine) (Some (top_behind machine top));
  least = top_behind machine top;
  signals = s.signals;
  bytes = s.bytes;
}

-- whether an address stands in the code of a file
abbrev pub is_site : Result Site End → Bool
is_site (Ok site) = true
is_site (Err end) = false

-- the call that returns to an address stands in the code of a file that is at hand
pub record IsInCode (mappings : List Mapping) (word : ℕ) (is_code : Bool) : Type 0 where
  pub answer : Result Site End
  pub spot : IsSpot mappings (word - 1) answer
  pub is : is_code ≡ is_site answer

-- the caller, where its address is code
abbrev pub jump_if : Bool → State → Option State
jump_if true caller = Some caller
jump_if false caller = None

-- the guess by a return address that is known
pub record IsJumpBy (mappings : List Mapping) (machine : Machine) (s : State) (top word : ℕ) (guess : Option State)
    : Type 0 where
  pub is_code : Bool
  pub in_code : IsInCode mappings word is_code
  pub is : guess ≡ jump_if is_code (guessed_caller machine s top word)

-- the guess by a return address; none where it is not known
abbrev pub IsJumpOf : List Mapping → Machine → State → (top : ℕ) → Option ℕ → Option State → Type 0
IsJumpOf mappings machine s top None guess = guess ≡ None
IsJumpOf mappings machine s top (Some word) guess = IsJumpBy mappings machine s top word guess

-- the guess by the stack pointer; none where it is not known
abbrev pub IsJumpAt : List Mapping → Machine → Memory → State → Option ℕ → Option State → Type 0
IsJumpAt mappings machine m s None guess = guess ≡ None
IsJumpAt mappings machine m s (Some top) guess =
    IsJumpOf mappings machine s top (return_word machine m s top) guess

-- where the caller of a thread that had jumped to no code may stand
abbrev pub IsJump : List Mapping → Machine → Memory → State → Option State → Type 0
IsJump mappings machine m s guess = IsJumpAt mappings machine m s (stack_top machine s) guess
