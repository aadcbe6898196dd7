-- What a front shows where the same memory has a report: its threads, and their frames. A report asks more of a memory,
-- that each chain goes on to null, and has no frames without names.
use Rattle.std.specs.Prelude.{◌≡◌, ◌≢◌, ℕ, ◌≤◌, ◌<◌, ◌⊎◌, nat_eq, Bool, true, false, All, Contains, List, [], ◌∷◌, ◌++◌}
use Rattle.std.specs.Prelude.{length, map, Ok, ⊤}
use Rattle.std.specs.List.{list_any}
use Rattle.process_memory.specs.Memory.{Memory}
use Rattle.py_fields.specs.declared.version.Version.{Version}
use Rattle.py_fields.specs.declared.layout.Layout.{Layout}
use Rattle.py_builtins.specs.Texts.{text_at}
use Rattle.py_stacks.specs.Asking.{nothing}
use Rattle.py_stacks.specs.Frames.{Call, member_limit}
use Rattle.py_stacks.specs.Interpreter.{interpreter_named_by}
use Rattle.py_stacks.specs.Threads.{AreTraces, Trace}
use Rattle.py_process.specs.Candidates.{IsFirstOf, candidates_of}
use Rattle.py_process.specs.Facts.{Known}
use Rattle.py_process.specs.Reports.{bare_call}
use Rattle.py_fronts.specs.Candidates.{named_candidates}
use Rattle.py_fronts.specs.FrameFronts.{FramesShown}
use Rattle.py_fronts.specs.Front.Ending.{Whole, Cut}
use Rattle.py_fronts.specs.Fronts.{FrontsShown, InterpreterShown}
use Rattle.py_fronts.specs.Interpreters.{Finds, is_found}
use Rattle.py_fronts.specs.Standings.{Stood}
use Rattle.py_fronts.specs.Standings.Stood.{IsFrame, IsMember}
use Rattle.py_fronts.specs.ThreadFronts.{ThreadShown, ThreadsShown}

-- the frames among what stands for members, by their names and marks
unfoldable pub frames_among : List Stood → List Call
frames_among [] = []
frames_among (IsFrame call fault ∷ rest) = bare_call call ∷ frames_among rest
frames_among (IsMember address fault ∷ rest) = frames_among rest

-- the frames of a trace are those that are shown first, at most as many as stand between, and those that are shown last
pub record ShowsCalls (frames : FramesShown) (calls : List Call) : Type 0 where
  pub hidden : List Call
  pub fewer : length hidden ≤ frames.between
  pub parts : map bare_call calls ≡ frames_among frames.first ++ (hidden ++ frames_among frames.last)

-- a thread is that of a trace: by its ids, and by its frames to null; or fewer members could be met than it has, though
-- a report has at most 16384 of a thread
pub record ShowsTrace (thread : ThreadShown) (trace : Trace) : Type 0 where
  pub thread_id : thread.thread_id ≡ trace.thread_id
  pub os_thread_id : thread.os_thread_id ≡ trace.os_thread_id
  pub frames : ((thread.frames.ending ≡ Whole) × ShowsCalls thread.frames trace.frames)
      ⊎ ((thread.frames.ending ≡ Cut) × (thread.frames.met < member_limit))

-- each thread is that of the trace at its place, and there are as many threads as traces
abbrev pub ShowTraces : List ThreadShown → List Trace → Type 0
ShowTraces [] [] = ⊤
ShowTraces [] (trace ∷ rest) = ⊥
ShowTraces (thread ∷ threads) [] = ⊥
ShowTraces (thread ∷ threads) (trace ∷ rest) = ShowsTrace thread trace × ShowTraces threads rest

-- the threads are those of a report's traces, in order, and their chain is whole
pub record ShowsReport (shown : ThreadsShown) (traces : List Trace) : Type 0 where
  pub whole : shown.ending ≡ Whole
  pub threads : ShowTraces shown.threads traces

-- each of some threads names the interpreter. A report asks this of the first alone
abbrev pub NameIt : Layout → Memory → ℕ → List ℕ → Type 0
NameIt l m interpreter threads = All (λ a. interpreter_named_by l m a ≡ Ok interpreter) threads

-- no text stands at address 0, where Linux maps nothing
abbrev pub NoTextAtNull : Layout → Memory → Type 0
NoTextAtNull l m = (cs : List ℕ) → text_at l m 0 ≢ Ok cs

-- where there is a report, and each of its threads names the interpreter, these are its threads
abbrev pub AgreesWithReport : Layout → Memory → ℕ → ThreadsShown → Type 0
AgreesWithReport l m interpreter shown = (traces : List Trace) (are : AreTraces nothing l m interpreter traces)
    → NameIt l m interpreter are.threads → NoTextAtNull l m → ShowsReport shown traces

-- the interpreter of a report: the first candidate that is one; and each of its threads names it
pub record IsReported (contains : ℕ → Bool) (k : Known) (v : Version) (l : Layout) (m : Memory) (a : ℕ) : Type 0 where
  pub first : IsFirstOf contains l m (candidates_of k v l m) a
  pub traces : List Trace
  pub are : AreTraces nothing l m a traces
  pub named : NameIt l m a are.threads

-- an address was looked at: it is named, or the search did not end before all was looked at
abbrev pub IsSought : (ended : Bool) → Known → Version → Layout → Memory → ℕ → Type 0
IsSought ended k v l m a = Contains (named_candidates k v l m) a ⊎ (ended ≡ false)

-- it is among those that were found, where it was looked at, there are no more of them, and no map holds address 0
abbrev pub FindsReported : (ended : Bool) → (ℕ → Bool) → Known → Version → Layout → Memory → Finds → Type 0
FindsReported ended contains k v l m r = r.more ≡ false → contains 0 ≡ false → (a : ℕ) → IsReported contains k v l m a
    → IsSought ended k v l m a → is_found r.found a ≡ true

-- whether an interpreter is shown
abbrev pub is_shown : List InterpreterShown → ℕ → Bool
is_shown shown a = list_any (λ one. nat_eq one.address a) shown

-- the interpreter of a report is shown where it was looked at, and each that is shown has its threads
pub record AgreeWithReport (contains : ℕ → Bool) (k : Known) (v : Version) (l : Layout) (m : Memory)
    (fronts : FrontsShown) : Type 0 where
  pub shown : fronts.more ≡ false → contains 0 ≡ false → (a : ℕ) → IsReported contains k v l m a
      → IsSought fronts.looked.ended k v l m a → is_shown fronts.interpreters a ≡ true
  pub each : All (λ (one : InterpreterShown). AgreesWithReport l m one.address one.threads) fronts.interpreters
