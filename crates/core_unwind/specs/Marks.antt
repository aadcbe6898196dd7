-- One step: by tables, and where none covers the address by a mark. What the frame's own instructions say follows from
-- the machine; a frame pointer is a guess, and taken where guesses are wanted alone.
use Rattle.std.specs.Prelude.{◌≡◌, Bool, true, false, List, [], ◌∷◌, Option, Some, None}
use Rattle.process_memory.specs.Memory.{Memory}
use Rattle.frame_rows.specs.declared.row.Machine.{Machine}
use Rattle.core_unwind.specs.declared.end.End.{End}
use Rattle.core_unwind.specs.declared.end.End.TheVariants.{NoFile, NoTable}
use Rattle.core_unwind.specs.declared.frame.Frame.{Frame}
use Rattle.core_unwind.specs.declared.frame.Next.{Next}
use Rattle.core_unwind.specs.declared.frame.Next.TheVariants.{Caller, Stops}
use Rattle.core_unwind.specs.declared.frame.Turn.{Turn}
use Rattle.core_unwind.specs.declared.mark.Going.{Going}
use Rattle.core_unwind.specs.declared.mark.Manner.{Manner}
use Rattle.core_unwind.specs.declared.place.Mapping.{Mapping}
use Rattle.core_unwind.specs.declared.state.State.{State}
use Rattle.core_unwind.specs.Bases.{IsBased}
use Rattle.core_unwind.specs.Epilogues.{epilogue}
use Rattle.core_unwind.specs.Steps.{IsTableStep}
use Rattle.core_unwind.specs.Trampolines.{trampoline}

-- no table covers the address, as there is none, or its file is not at hand
abbrev pub is_uncovered : End → Bool
is_uncovered (NoTable at) = true
is_uncovered (NoFile at) = true
is_uncovered other = false

-- whether a stack stops at a frame since no table covers its address
abbrev pub stops_uncovered : Next → Bool
stops_uncovered (Stops end) = is_uncovered end
stops_uncovered (Caller s) = false

-- the frame goes on, if it does
abbrev pub turn_by : Turn → Option Going → Turn
turn_by tabled None = tabled
turn_by tabled (Some going) = record {
  frame = record {
    pc = tabled.frame.pc;
    is_exact = tabled.frame.is_exact;
    place = tabled.frame.place;
    cfa = Some going.cfa;
    is_signal = going.is_signal;
    mark = Some going.mark;
  };
  next = Caller going.caller;
}

-- the first way to go on where there is one, else the second
abbrev pub first_going : Option Going → Option Going → Option Going
first_going (Some going) other = Some going
first_going None other = other

-- how a frame goes on by its own instructions
abbrev pub coded : Machine → Memory → State → Option Going
coded machine m s = first_going (trampoline machine m s) (epilogue machine m s)

-- a step by the frame pointer, where guesses are wanted; else as the tables have it
abbrev pub IsGuessedIf : Bool → List Mapping → Machine → Memory → State → Turn → Turn → Type 0
IsGuessedIf false mappings machine m s tabled turn = turn ≡ tabled
IsGuessedIf true mappings machine m s tabled turn =
    (going : Option Going) × IsBased mappings machine m s going × (turn ≡ turn_by tabled going)

-- by a guess, where one is wanted
abbrev pub IsGuessed : List Mapping → Manner → Memory → State → Turn → Turn → Type 0
IsGuessed mappings manner m s tabled turn = IsGuessedIf manner.guesses mappings manner.machine m s tabled turn

-- a step by what the frame's own instructions say, where they say it, else by a guess
abbrev pub IsUncoveredBy : List Mapping → Manner → Memory → State → Turn → Option Going → Turn → Type 0
IsUncoveredBy mappings manner m s tabled (Some going) turn = turn ≡ turn_by tabled (Some going)
IsUncoveredBy mappings manner m s tabled None turn = IsGuessed mappings manner m s tabled turn

-- by the frame's own instructions, or else by a guess
abbrev pub IsUncovered : List Mapping → Manner → Memory → State → Turn → Turn → Type 0
IsUncovered mappings manner m s tabled turn =
    IsUncoveredBy mappings manner m s tabled (coded manner.machine m s) turn

-- a step whose address no table covers is by a mark; any other stays as the tables have it
abbrev pub IsMarkedIf : Bool → List Mapping → Manner → Memory → State → Turn → Turn → Type 0
IsMarkedIf false mappings manner m s tabled turn = turn ≡ tabled
IsMarkedIf true mappings manner m s tabled turn = IsUncovered mappings manner m s tabled turn

-- what marks make of a step by tables
abbrev pub IsMarked : List Mapping → Manner → Memory → State → Turn → Turn → Type 0
IsMarked mappings manner m s tabled turn =
    IsMarkedIf (stops_uncovered tabled.next) mappings manner m s tabled turn

-- one step from a state
pub record IsStep (mappings : List Mapping) (manner : Manner) (m : Memory) (s : State) (turn : Turn) : Type 0 where
  pub tabled : Turn
  pub by_table : IsTableStep mappings manner.code_bits m s tabled
  pub is : IsMarked mappings manner m s tabled turn

-- no frame has a mark
unfoldable pub AreUnmarked : List Frame → Type 0
AreUnmarked [] = Unit {0}
AreUnmarked (f ∷ fs) = (f.mark ≡ None) × AreUnmarked fs
