-- One stack of the Python frames and the native ones of each thread of a core.
use Rattle.std.specs.Prelude.{◌≡◌, ℕ, min, Bool, List, [], ◌∷◌, length, slice_get, Option, Some, None, option_map}
use Rattle.process_memory.specs.Memory.{Memory}
use Rattle.py_fields.specs.declared.layout.Layout.{Layout}
use Rattle.native_pairs.specs.declared.item.Item.{Item}
use Rattle.native_pairs.specs.declared.part.Part.{Part}
use Rattle.native_stacks.specs.Threads.{NativeShown}
use Rattle.py_runs.specs.Runs.{runs_at}
use Rattle.py_runs.specs.declared.run_rule.RunEnd.{RunEnd}
use Rattle.thread_registers.specs.declared.threads.Whose.{Whose}
use Rattle.thread_registers.specs.declared.threads.Whose.TheVariants.{Python, Other, Untold}
use Rattle.paired_stacks.specs.Frames.{hidden_of, parts_of, steps_of}
use Rattle.paired_stacks.specs.Laid.{IsApart, IsLaidIf}
use Rattle.paired_stacks.specs.declared.code.OwnCode.{OwnCode}
use Rattle.paired_stacks.specs.declared.laid.Pairing.{Pairing}
use Rattle.paired_stacks.specs.declared.stack.PairedStack.{PairedStack}
use Rattle.paired_stacks.specs.declared.walked.Walked.{Walked}

-- how often memory is read at most for a thread
abbrev pub most_of_each : ℕ
most_of_each = 4194338

-- what both are in one, by the runs of the members that were met
abbrev pub IsPairedBy : Option RunEnd → Layout → Memory → List Part → List Bool → Walked → Pairing → List Item → Type 0
IsPairedBy (Some end) l m parts steps w pairing items =
    IsLaidIf end parts steps (runs_at l end m w.address (min w.met 1048576)) w.frames pairing items
IsPairedBy None l m parts steps w pairing items = IsApart (length steps) w.frames pairing items

-- a thread of Python's that stands at a stack pointer
pub record IsPairedStack (end : Option RunEnd) (l : Layout) (m : Memory) (own : OwnCode) (start : Option ℕ)
    (t : NativeShown) (w : Walked) (told : PairedStack) : Type 0 where
  pub thread : told.thread ≡ w.address
  pub stack : IsPairedBy end l m (parts_of own start t) (steps_of own t) w told.pairing told.items.items
  pub hidden : told.hidden.items ≡ hidden_of own t

-- the same as values
pub record PairedSeen : Type 0 where
  pub thread : ℕ
  pub pairing : Pairing
  pub items : List Item
  pub hidden : List Bool

-- a stack that was paired, in plain terms
abbrev pub stack_seen : PairedStack → PairedSeen
stack_seen s = record { thread = s.thread; pairing = s.pairing; items = s.items.items; hidden = s.hidden.items }

-- a stack that was paired, in plain terms, where there is one
abbrev pub seen_if : Option PairedStack → Option PairedSeen
seen_if s = option_map stack_seen s

-- a thread, if it is one of Python's
abbrev pub IsPairedIf : Option RunEnd → Layout → Memory → OwnCode → (start : Option ℕ) → NativeShown → Option Walked
    → Option PairedStack → Type 0
IsPairedIf end l m own start t None told = told ≡ None
IsPairedIf end l m own start t (Some w) None = ⊥
IsPairedIf end l m own start t (Some w) (Some told) = IsPairedStack end l m own start t w told

-- which of Python's threads that are shown it is
abbrev pub walked_by : List Walked → Whose → Option Walked
walked_by threads (Python found) = slice_get threads found.index
walked_by threads Other = None
walked_by threads Untold = None

-- the stack pointer of the next thread, and those behind it
abbrev pub first_start : List (Option ℕ) → Option ℕ
first_start [] = None
first_start (s ∷ ss) = s

-- the stack pointers of the threads behind the next one
abbrev pub other_starts : List (Option ℕ) → List (Option ℕ)
other_starts [] = []
other_starts (s ∷ ss) = ss

-- of each native stack, in order
unfoldable pub ArePaired : Option RunEnd → Layout → Memory → OwnCode → List Walked → (starts : List (Option ℕ))
    → List NativeShown → List (Option PairedStack) → Type 0
ArePaired end l m own threads starts [] told = told ≡ []
ArePaired end l m own threads starts (t ∷ ts) [] = ⊥
ArePaired end l m own threads starts (t ∷ ts) (x ∷ others) =
    IsPairedIf end l m own (first_start starts) t (walked_by threads t.whose) x
    × ArePaired end l m own threads (other_starts starts) ts others
