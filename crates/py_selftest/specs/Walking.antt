-- The threads and frames that a layout leads to, with what is known of each: which types a frame leads to, and which
-- answers it gives. That a thread names its newest frame, in 3.11 and 3.12 by a record between, and a frame its caller
-- and its code, is CPython's rule (`PyThreadState`, `_PyCFrame`, `PyFrameObject`, `_PyInterpreterFrame`); how many are
-- looked at, and that one whose code names no file is passed over, is this project's.
use Rattle.std.specs.Prelude.{ℕ, zero, suc, ◌+◌, ◌*◌, ◌/◌, ◌==◌, Bool, true, false, if◌then◌else◌, List, [], ◌∷◌, take}
use Rattle.std.specs.Prelude.{Option, Some, None, Result, Ok, Err}
use Rattle.process_memory.specs.Memory.{Memory, Found, ◌>>=◌, word_at}
use Rattle.process_memory.specs.declared.memory.ReadFault.{ReadFault}
use Rattle.py_fields.specs.declared.layout.Layout.{Layout}
use Rattle.py_fields.specs.declared.layout.CframeAt.{CframeAt}
use Rattle.py_selftest.specs.declared.questions.Answer.{Answer}
use Rattle.py_selftest.specs.declared.questions.FrameTold.{FrameTold}
use Rattle.py_selftest.specs.declared.telling.Release.{Release}
use Rattle.py_selftest.specs.declared.telling.Types.{Types}
use Rattle.py_selftest.specs.declared.threads.ThreadTold.{ThreadTold}
use Rattle.py_selftest.specs.declared.walking.Met.{Met}
use Rattle.py_selftest.specs.declared.walking.ThreadPlace.{ThreadPlace}
use Rattle.py_selftest.specs.Classes.{types_met}
use Rattle.py_selftest.specs.Questions.{add_frame, frame_told, one_more}
use Rattle.py_selftest.specs.Telling.{kept, word_told}
use Rattle.py_selftest.specs.Threads.{add_thread, thread_told}

-- what was met so far: the next member of a chain of frames, or 0; the interpreter of the thread that was asked last;
-- the types; how many frames were met whose code names a file, 8 at most; the answers
pub record MetShown : Type 0 where
  pub at : ℕ
  pub interpreter : ℕ
  pub types : Types
  pub frames : ℕ
  pub answers : List Answer

-- the same, as the code has it
abbrev pub met_shown : Met → MetShown
met_shown met = record {
  at = met.at;
  interpreter = met.interpreter;
  types = met.types;
  frames = met.frames;
  answers = met.answers.items;
}

-- a reader's result with what was met
abbrev pub met_result : Result Met ReadFault → Result MetShown ReadFault
met_result (Ok met) = Ok (met_shown met)
met_result (Err error) = Err error

-- the newest frame, by what a thread's record names
abbrev pub current_at : Memory → Option CframeAt → ℕ → Found ℕ
current_at m None top = Ok top
current_at m (Some cframe) top = word_at m (top + cframe.current)

-- the newest frame of a thread
unfoldable pub newest_at : Layout → Memory → ℕ → Found (Option ℕ)
newest_at l m thread = do
  top ← word_at m (thread + l.thread.frame)
  newest ← current_at m l.cframe top
  Ok (Some newest)

-- what addresses without a tag of so many bits are multiples of; 8 for three bits and more
abbrev pub tag_of : ℕ → ℕ
tag_of bits = if bits == 0 then 1 else if bits == 1 then 2 else if bits == 2 then 4 else 8

-- the address of code, without the lowest bits that are a tag
abbrev pub untagged : ℕ → ℕ → ℕ
untagged word bits = word / tag_of bits * tag_of bits

-- code, if it names a file
abbrev pub code_if : ℕ → ℕ → Option ℕ
code_if code file = if file == 0 then None else Some code

-- the code of a frame, if it names a file
unfoldable pub code_at : Layout → Memory → ℕ → Found (Option ℕ)
code_at l m frame = do
  word ← word_at m (frame + l.frame.code)
  file ← word_at m (untagged word l.frame.code_tag_bits + l.code.filename)
  Ok (code_if (untagged word l.frame.code_tag_bits) file)

-- the address, or 0 where there is none
abbrev pub or_null : Option ℕ → ℕ
or_null None = 0
or_null (Some at) = at

-- what was met with a frame: its types, its answers, and where the chain goes on
abbrev pub at_frame : MetShown → Types → ℕ → FrameTold → MetShown
at_frame met types back told = record {
  at = back;
  interpreter = met.interpreter;
  types = types;
  frames = one_more met.frames;
  answers = add_frame met.answers told;
}

-- the same of a member of the chain that is no frame whose code names a file
abbrev pub passed_over : MetShown → ℕ → MetShown
passed_over met back = record {
  at = back;
  interpreter = met.interpreter;
  types = met.types;
  frames = met.frames;
  answers = met.answers;
}

-- what is met with a member of a chain, by its code; where it has none it is passed over
unfoldable pub code_step : Layout → Memory → Release → MetShown → ℕ → Option ℕ → Found MetShown
code_step l m r met back None = Ok (passed_over met back)
code_step l m r met back (Some code) = do
  types ← types_met l m r met.types met.at code
  told ← frame_told l m r types met.at code
  Ok (at_frame met types back told)

-- what is met with the member of a chain at which it stands; a word that is not in memory ends the chain, and a member
-- whose code's is not, or names no file, gives no answer
unfoldable pub frame_step : Layout → Memory → Release → MetShown → Found MetShown
frame_step l m r met = do
  back ← kept (word_told m met.at l.frame.back)
  code ← kept (code_at l m met.at)
  code_step l m r met (or_null back) code

-- what is met with the next member of a chain; the same as before where the chain has ended
unfoldable pub step_if : Layout → Memory → Release → MetShown → Bool → Found MetShown
step_if l m r met true = Ok met
step_if l m r met false = frame_step l m r met

-- what is met with the next member of a chain, if it goes on
abbrev pub step_at : Layout → Memory → Release → MetShown → Found MetShown
step_at l m r met = step_if l m r met (met.at == 0)

-- what is met with so many members of a chain
unfoldable pub chain_from : Layout → Release → Memory → ℕ → MetShown → Found MetShown
chain_from l r m zero met = Ok met
chain_from l r m (suc left) met = step_at l m r met >>= chain_from l r m left

-- what was met with a thread of an interpreter: its answers, and where its chain of frames begins
abbrev pub at_thread : MetShown → ℕ → ThreadTold → ℕ → MetShown
at_thread met interpreter told newest = record {
  at = newest;
  interpreter = interpreter;
  types = met.types;
  frames = met.frames;
  answers = add_thread met.answers told;
}

-- what is met with a thread and the first 16 members of its chain of frames
unfoldable pub thread_step : Layout → Release → List ℕ → Memory → ThreadPlace → MetShown → Found MetShown
thread_step l r pointers m thread met = do
  told ← thread_told l m pointers met.interpreter thread.interpreter thread.address
  newest ← kept (newest_at l m thread.address)
  chain_from l r m 16 (at_thread met thread.interpreter told (or_null newest))

-- what is met with some threads, one after another
unfoldable pub threads_from : Layout → Release → List ℕ → Memory → List ThreadPlace → MetShown → Found MetShown
threads_from l r pointers m [] met = Ok met
threads_from l r pointers m (thread ∷ threads) met =
    thread_step l r pointers m thread met >>= threads_from l r pointers m threads

-- the threads that are looked at: the first 64
abbrev pub first_threads : List ThreadPlace → List ThreadPlace
first_threads threads = take 64 threads

-- before any thread was asked, where these types are known
abbrev pub met_none : Types → MetShown
met_none types = record { at = 0; interpreter = 0; types = types; frames = 0; answers = [] }

-- what is met with the first 64 threads, where these types and these thread pointers are known
abbrev pub met_at : Layout → Release → List ℕ → Memory → Types → List ThreadPlace → Found MetShown
met_at l r pointers m types threads = threads_from l r pointers m (first_threads threads) (met_none types)
