-- The fronts of all interpreters of a process.
use Rattle.std.specs.Prelude.{◌≡◌, ℕ, ◌+◌, ◌*◌, ◌≤◌, Bool, List, [], ◌∷◌, length, map, min, sum_by, Result, Ok}
use Rattle.std.specs.Prelude.{Err, Vec}
use Rattle.std.specs.Global.{Global}
use Rattle.process_memory.specs.Memory.{Memory, byte_at}
use Rattle.process_memory.specs.Seen.{Reading, ReadingOf, Seen}
use Rattle.py_fields.specs.declared.version.Version.{Version}
use Rattle.py_fields.specs.declared.layout.Layout.{Layout}
use Rattle.py_stacks.specs.declared.asked.Asked.{Asked}
use Rattle.py_process.specs.Facts.{Known}
use Rattle.py_process.specs.Sections.{IsSearched}
use Rattle.py_fronts.specs.declared.fronts.Fronts.{Fronts}
use Rattle.py_fronts.specs.declared.fronts.InterpreterFront.{InterpreterFront}
use Rattle.py_fronts.specs.declared.interpreters.FoundInterpreter.{FoundInterpreter}
use Rattle.py_fronts.specs.FrameFronts.{all_members_limit}
use Rattle.py_fronts.specs.declared.search.Looked.{Looked}
use Rattle.py_fronts.specs.Interpreters.{interpreters_at, interpreters_reads, looked_at}
use Rattle.py_fronts.specs.Standings.{standing_reads}
use Rattle.py_fronts.specs.ThreadFronts.{ThreadsShown, front_shown, left_after, threads_front, threads_of}
use Rattle.py_fronts.specs.ThreadFronts.{threads_reads}
use Rattle.py_stacks.specs.Threads.{thread_limit}

-- an interpreter, how it was found, and its threads
pub record InterpreterShown : Type 0 where
  pub address : ℕ
  pub searched : Bool
  pub threads : ThreadsShown

-- the threads of an interpreter that was found, where so many members of chains of frames may be met yet
abbrev pub threads_from : Asked → Layout → Memory → (limit left : ℕ) → FoundInterpreter → ThreadsShown
threads_from q l m limit left one = front_shown q l m limit left (threads_front l one.address m one.head)

-- an interpreter that was found, with its threads
abbrev pub interpreter_front : Asked → Layout → Memory → (limit left : ℕ) → FoundInterpreter → InterpreterShown
interpreter_front q l m limit left one =
    record { address = one.address; searched = one.searched; threads = threads_from q l m limit left one }

-- each of those that were found, in order; what one of them meets is no longer left for those after it
unfoldable pub interpreters_fronts : Asked → Layout → Memory → (limit left : ℕ) → List FoundInterpreter
    → List InterpreterShown
interpreters_fronts q l m limit left [] = []
interpreters_fronts q l m limit left (one ∷ rest) = interpreter_front q l m limit left one
    ∷ interpreters_fronts q l m limit (left_after left (threads_from q l m limit left one).threads) rest

-- how many members may be met after some
unfoldable pub found_left : Asked → Layout → Memory → (limit left : ℕ) → List FoundInterpreter → ℕ
found_left q l m limit left [] = left
found_left q l m limit left (one ∷ rest) =
    found_left q l m limit (left_after left (threads_from q l m limit left one).threads) rest

-- the interpreters that are shown, whether there are more than may be, and what was looked at to find them
pub record FrontsShown : Type 0 where
  pub interpreters : List InterpreterShown
  pub more : Bool
  pub looked : Looked

-- the interpreters that are found in a memory, with the fronts of all their threads
unfoldable pub fronts_at : (ℕ → Bool) → Known → Version → Layout → Memory → Asked → ℕ → FrontsShown
fronts_at contains k v l m q limit = record {
  interpreters = interpreters_fronts q l m limit all_members_limit (interpreters_at contains k v l m).found;
  more = (interpreters_at contains k v l m).more;
  looked = looked_at contains k v l m;
}

-- ---- as they are read

-- an interpreter's front that the code has, as the interpreter that it shows
abbrev pub interpreter_of_front : InterpreterFront → InterpreterShown
interpreter_of_front i = record { address = i.address; searched = i.searched; threads = threads_of i.threads }

-- a reader's result with the interpreters that its vector of fronts shows
abbrev pub interpreters_result : {E : Type 0} → Result (Vec InterpreterFront Global) E
    → Result (List InterpreterShown) E
interpreters_result (Ok is) = Ok (map interpreter_of_front is.items)
interpreters_result (Err e) = Err e

-- a reader's result with what its fronts show
abbrev pub fronts_result : {E : Type 0} → Result Fronts E → Result FrontsShown E
fronts_result (Ok f) = Ok (record {
  interpreters = map interpreter_of_front f.interpreters.items;
  more = f.more;
  looked = f.looked;
})
fronts_result (Err e) = Err e

-- the reads of all interpreters: those of the threads of each
abbrev pub fronts_reads : Asked → List InterpreterShown → ℕ
fronts_reads q is = sum_by (λ (i : InterpreterShown). threads_reads q i.threads) is

-- how many these are at most for so many interpreters, whatever the memory holds: no more members are shown than are
-- met, over all threads together. Without locals it is 2,227,634,192 for 16 interpreters at the limits 100 and 4096
abbrev pub fronts_most : Asked → (limit count : ℕ) → ℕ
fronts_most q limit count =
    count + 7 * (thread_limit * count) + 5 * all_members_limit
    + standing_reads q * min all_members_limit (2 * limit * (thread_limit * count))

-- the same with those of the search for the interpreters
abbrev pub all_most : (ℕ → Bool) → Known → Version → Layout → Memory → Asked → ℕ → ℕ
all_most contains k v l m q limit = interpreters_reads contains k v l m
    + fronts_most q limit (length (interpreters_at contains k v l m).found)

-- what the reader of all fronts owes: each read is one of fewer than 65536 bytes, or of exactly a section
abbrev pub Fronting : (ℕ → Bool) → Known → Version → Layout → Asked → ℕ → Seen → Seen → (Memory → Type 0) → Type 0
Fronting contains k v l q limit old new Q = ReadingOf (IsSearched k)
    (interpreters_reads contains k v l (byte_at old.pieces)
    + fronts_reads q (fronts_at contains k v l (byte_at old.pieces) q limit).interpreters) old new Q

-- the interpreters that were read so far, and how many members may be met yet
pub record Passing (q : Asked) (l : Layout) (limit before : ℕ) (old new : Seen) (found : List FoundInterpreter)
    (shown : List InterpreterFront) (left : ℕ) : Type 0 where
  pub fewer : left ≤ before
  pub spent : ℕ
  pub cost : spent ≤ fronts_reads q (map interpreter_of_front shown)
  pub reading : Reading spent old new (λ m.
      (map interpreter_of_front shown ≡ interpreters_fronts q l m limit before found)
      × (left ≡ found_left q l m limit before found))
