-- The native stack of a thread, with the functions of its frames.
use Rattle.std.specs.Prelude.{◌≡◌, ℕ, ◌-◌, true, false, Bool, List, length, Option, Some, None, option_map}
use Rattle.std.specs.List.{find}
use Rattle.frame_rows.specs.declared.row.Machine.{Machine}
use Rattle.process_memory.specs.Memory.{Memory}
use Rattle.core_unwind.specs.declared.end.End.{End}
use Rattle.core_unwind.specs.declared.end.End.TheVariants.{NoFile}
use Rattle.core_unwind.specs.declared.place.Mapping.{Mapping}
use Rattle.core_unwind.specs.declared.state.State.{State}
use Rattle.core_unwind.specs.declared.guess.Guess.{Guess}
use Rattle.core_unwind.specs.declared.mark.Manner.{Manner}
use Rattle.core_unwind.specs.declared.mark.Mark.{Mark}
use Rattle.core_unwind.specs.Marks.{IsStep}
use Rattle.core_unwind.specs.Origins.{IsGuess}
use Rattle.core_unwind.specs.Places.{holds}
use Rattle.core_unwind.specs.Stacks.{Chain, IsStack}
use Rattle.native_frames.specs.declared.stacks.NativeFrame.{NativeFrame}
use Rattle.native_frames.specs.declared.stacks.ThreadStack.{ThreadStack}
use Rattle.native_frames.specs.declared.thread.StackParts.{StackParts}
use Rattle.native_frames.specs.Limits.{limit_of}
use Rattle.native_frames.specs.Naming.{AreNamed}

-- a stack: its frames, how it ends, and the number of the file that was not at hand there
pub record StackShown : Type 0 where
  pub frames : List NativeFrame
  pub end : End
  pub missing : Option ℕ
  -- by what its newest frame was guessed
  pub guess : Option Mark

-- the number of the file that is mapped where a stack ends since it is not at hand
abbrev pub missing_at : List Mapping → End → Option ℕ
missing_at mappings (NoFile at) = option_map (λ (m : Mapping). m.file) (find (holds at) mappings)
missing_at mappings other = None

-- the stack from a state on, where so many frames are left to the process
abbrev pub IsThreadStack : List Mapping → Manner → Memory → (left : ℕ) → State → Chain → Type 0
IsThreadStack mappings manner m left first chain = IsStack (IsStep mappings manner m) (limit_of left) first chain

-- the same, with the functions of its frames
pub record IsNamedStack (mappings : List Mapping) (manner : Manner) (m : Memory) (left : ℕ) (guess : Option Mark)
    (first : State) (chain : Chain) (stack : StackShown) : Type 0 where
  pub follows : IsThreadStack mappings manner m left first chain
  pub named : AreNamed mappings chain.frames stack.frames
  pub ends : stack.end ≡ chain.end
  pub missing : stack.missing ≡ missing_at mappings chain.end
  pub guessed : stack.guess ≡ guess

-- no guess is wanted, or it is that of where the stack ends
abbrev pub IsGuessUnless : (strict : Bool) → List Mapping → Machine → Memory → Chain → Option Guess → Type 0
IsGuessUnless true mappings machine m chain guess = guess ≡ None
IsGuessUnless false mappings machine m chain guess = IsGuess mappings machine m chain guess

-- how a stack is followed: on which machine, with which bits of addresses, and whether frame pointers are guessed
abbrev pub manner_of : Machine → (code_bits : ℕ) → (guesses : Bool) → Manner
manner_of machine code_bits guesses = record { machine = machine; code_bits = code_bits; guesses = guesses }

-- the stack behind a guess: there frame pointers are followed too
abbrev pub IsGuessedStack : List Mapping → Machine → (code_bits : ℕ) → Memory → (left : ℕ) → Option Guess
    → Option StackShown → Type 0
IsGuessedStack mappings machine code_bits m left None stack = stack ≡ None
IsGuessedStack mappings machine code_bits m left (Some guess) stack =
    (chain : Chain) × (told : StackShown) × (stack ≡ Some told)
    × IsNamedStack mappings (manner_of machine code_bits true) m left (Some guess.mark) guess.caller chain told

-- a stack, and what follows it by a guess
pub record StackPair (mappings : List Mapping) (machine : Machine) (code_bits : ℕ) (m : Memory) (strict : Bool)
    (left : ℕ) (first : State) (pair : StackShown × Option StackShown) : Type 0 where
  pub chain : Chain
  pub stack : IsNamedStack mappings (manner_of machine code_bits false) m left None first chain pair.0
  pub guess : Option Guess
  pub guesses : IsGuessUnless strict mappings machine m chain guess
  pub behind : IsGuessedStack mappings machine code_bits m (left - length chain.frames) guess pair.1

-- ---- as they are read

-- a stack in plain terms
abbrev pub stack_shown : ThreadStack → StackShown
stack_shown s = record { frames = s.frames.items; end = s.end; missing = s.missing; guess = s.guess }

-- a stack in plain terms, where there is one
abbrev pub stack_shown_if : Option ThreadStack → Option StackShown
stack_shown_if s = option_map stack_shown s

-- a stack and the one behind a guess, in plain terms
abbrev pub pair_of : StackParts → StackShown × Option StackShown
pair_of p = (stack_shown p.stack, stack_shown_if p.guessed)
