-- Who may have called where a stack ends since no table says how it goes on: guesses.
use Rattle.std.specs.Prelude.{◌≡◌, ◌&&◌, Bool, true, false, List, Option, Some, None, is_none}
use Rattle.std.specs.List.{find}
use Rattle.process_memory.specs.Memory.{Memory}
use Rattle.frame_rows.specs.declared.row.Machine.{Machine}
use Rattle.core_unwind.specs.declared.end.End.{End}
use Rattle.core_unwind.specs.declared.end.End.TheVariants.{NoFile}
use Rattle.core_unwind.specs.declared.guess.Guess.{Guess}
use Rattle.core_unwind.specs.declared.mark.Going.{Going}
use Rattle.core_unwind.specs.declared.mark.Mark.TheVariants.{Jump}
use Rattle.core_unwind.specs.declared.place.Mapping.{Mapping}
use Rattle.core_unwind.specs.declared.state.State.{State}
use Rattle.core_unwind.specs.Bases.{IsBased}
use Rattle.core_unwind.specs.Guesses.{IsJump}
use Rattle.core_unwind.specs.Marks.{is_uncovered}
use Rattle.core_unwind.specs.Places.{holds}
use Rattle.core_unwind.specs.Stacks.{Chain}

-- whether a stack ends since no file that is at hand is mapped there
abbrev pub is_no_file : End → Bool
is_no_file (NoFile at) = true
is_no_file other = false

-- a stack ends where its thread had jumped to no code: no mapping holds the instruction that was to run next
abbrev pub jumped : List Mapping → Chain → Bool
jumped mappings c =
    is_no_file c.end && (c.last.is_exact && is_none (find (holds c.last.pc) mappings))

-- the caller of a jump to no code, as a guess
abbrev pub jump_guess : Option State → Option Guess
jump_guess None = None
jump_guess (Some caller) = Some (record { mark = Jump; caller = caller })

-- the caller by the frame pointer, as a guess
abbrev pub base_guess : Option Going → Option Guess
base_guess None = None
base_guess (Some going) = Some (record { mark = going.mark; caller = going.caller })

-- by the frame pointer, where no table covers the address
abbrev pub IsBaseGuess : Bool → List Mapping → Machine → Memory → State → Option Guess → Type 0
IsBaseGuess false mappings machine m s guess = guess ≡ None
IsBaseGuess true mappings machine m s guess =
    (going : Option Going) × IsBased mappings machine m s going × (guess ≡ base_guess going)

-- by the return address where the thread had jumped to no code, else by the frame pointer
abbrev pub IsGuessIf : Bool → List Mapping → Machine → Memory → Chain → Option Guess → Type 0
IsGuessIf true mappings machine m c guess =
    (caller : Option State) × IsJump mappings machine m c.last caller × (guess ≡ jump_guess caller)
IsGuessIf false mappings machine m c guess = IsBaseGuess (is_uncovered c.end) mappings machine m c.last guess

-- who may have called where a stack ends
abbrev pub IsGuess : List Mapping → Machine → Memory → Chain → Option Guess → Type 0
IsGuess mappings machine m c guess = IsGuessIf (jumped mappings c) mappings machine m c guess
