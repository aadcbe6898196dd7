-- What is told of the exceptions of a thread.
use Rattle.std.specs.Prelude.{◌≡◌, ℕ, ◌+◌, Option, Some, None, List, map}
use Rattle.process_memory.specs.Memory.{Memory, word_at}
use Rattle.py_fields.specs.declared.layout.Layout.{Layout}
use Rattle.thread_exceptions.specs.Thread.{IsThread, Raised, Thread, thread_of}
use Rattle.thread_exceptions.specs.Thread.{Raised as raised}
use Rattle.py_exceptions.specs.declared.described.Described.{Described}
use Rattle.py_exceptions.specs.declared.name.ClassName.{ClassName}
use Rattle.py_exceptions.specs.declared.thread.RaisedParts.{RaisedParts}
use Rattle.py_exceptions.specs.declared.thread.ToldThread.{ToldThread}
use Rattle.py_exceptions.specs.declared.traceback.Traceback.{Traceback}
use Rattle.py_exceptions.specs.declared.value.Value.{Value}
use Rattle.py_exceptions.specs.ClassNames.{class_at}
use Rattle.py_exceptions.specs.Exceptions.{ExceptionShown, met_told_at, told_if}
use Rattle.py_exceptions.specs.Faults.{known}
use Rattle.py_exceptions.specs.Tracebacks.{TracebackShown, traceback_at, traceback_shown}
use Rattle.py_exceptions.specs.Values.{value_told_at}

-- a traceback, as the code has it, where there is one
abbrev pub traceback_if : Option Traceback → Option TracebackShown
traceback_if None = None
traceback_if (Some t) = Some (traceback_shown t)

-- the parts of what is raised up to 3.11: the class's name, the value and the traceback
pub record PartsShown : Type 0 where
  pub class : Option ClassName
  pub value : Option Value
  pub traceback : Option TracebackShown

-- the parts of what is raised, as the code has them
abbrev pub raised_parts_shown : RaisedParts → PartsShown
raised_parts_shown r = record { class = r.class; value = r.value; traceback = traceback_if r.traceback }

-- the same, where there are some
abbrev pub parts_if : Option RaisedParts → Option PartsShown
parts_if None = None
parts_if (Some r) = Some (raised_parts_shown r)

-- the traceback that begins at an address, where that is known
abbrev pub head_told_by : Layout → Described → Memory → Option ℕ → Option TracebackShown
head_told_by l d m None = None
head_told_by l d m (Some head) = Some (traceback_at l d.traceback m head)

-- the traceback that a thread names (`curexc_traceback`)
abbrev pub traceback_told_by : Layout → Described → Memory → ℕ → Option ℕ → Option TracebackShown
traceback_told_by l d m thread None = None
traceback_told_by l d m thread (Some place) = head_told_by l d m (known (word_at m (thread + place)))

-- the parts of what is raised, one by one
abbrev pub parts_with : Option ClassName → Option Value → Option TracebackShown → PartsShown
parts_with class value traceback = record { class = class; value = value; traceback = traceback }

-- the parts of what is raised, by the addresses of its class and its value
unfoldable pub parts_at : Layout → Described → Memory → ℕ → ℕ → ℕ → PartsShown
parts_at l d m thread class value =
    parts_with (class_at l d.class m class) (value_told_at l m value)
    (traceback_told_by l d m thread d.raised_traceback)

-- the same, where it has some
abbrev pub raised_parts_at : Layout → Described → Memory → ℕ → Raised → Option PartsShown
raised_parts_at l d m thread raised.Nothing = None
raised_parts_at l d m thread (raised.Exception addr) = None
raised_parts_at l d m thread (raised.Parts class value) = Some (parts_at l d m thread class value)
raised_parts_at l d m thread (raised.Lost f) = None

-- a thread as it is told: what it raises and handles, and of each object that was met what is told of it
pub record ToldShown : Type 0 where
  pub thread : Thread
  pub raised : Option PartsShown
  pub told : List (Option ExceptionShown)

-- a thread as it is told, as the code has it
abbrev pub told_shown : ToldThread → ToldShown
told_shown t = record {
  thread = thread_of t.thread;
  raised = parts_if t.raised;
  told = map (λ x. told_if x) t.told.items;
}

-- what is told of the exceptions of the thread with the record at an address
pub record IsTold (l : Layout) (d : Described) (m : Memory) (at : ℕ) (shown : ToldShown) : Type 0 where
  pub thread : IsThread d.thread m at shown.thread
  pub raised : shown.raised ≡ raised_parts_at l d m at shown.thread.raised
  pub told : shown.told ≡ map (λ x. met_told_at l d m x) shown.thread.met

-- how many reads a thread takes at most
abbrev pub told_reads : ℕ
told_reads = 120816153
