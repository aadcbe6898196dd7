-- Where nothing is guessed, and where something is.
use Rattle.std.proofs.Common.{◌≡◌, List, true, false, refl}
use Rattle.std.specs.Prelude.{Option, None}
use Rattle.process_memory.specs.Memory.{Memory}
use Rattle.frame_rows.specs.declared.row.Machine.{Machine}
use Rattle.core_unwind.specs.declared.guess.Guess.{Guess}
use Rattle.core_unwind.specs.declared.place.Mapping.{Mapping}
use Rattle.core_unwind.specs.declared.state.State.{State}
use Rattle.core_unwind.specs.Guesses.{IsJump, stack_top}
use Rattle.core_unwind.specs.Marks.{is_uncovered}
use Rattle.core_unwind.specs.Origins.{IsBaseGuess, IsGuess, jump_guess, jumped}
use Rattle.core_unwind.specs.Stacks.{Chain}

module _ (mappings : List Mapping) (machine : Machine) (m : Memory) where
  pub no_top : (s : State) → stack_top machine s ≡ None → IsJump mappings machine m s None
  no_top s e = rw e refl

  pub jump_is : (c : Chain) (caller : Option State) (guess : Option Guess) → jumped mappings c ≡ true
      → IsJump mappings machine m c.last caller → guess ≡ jump_guess caller → IsGuess mappings machine m c guess
  jump_is c caller guess e j g = rw e ((caller, j, g))

  pub base_is : (c : Chain) (guess : Option Guess) → jumped mappings c ≡ false
      → IsBaseGuess (is_uncovered c.end) mappings machine m c.last guess → IsGuess mappings machine m c guess
  base_is c guess e b = rw e b
