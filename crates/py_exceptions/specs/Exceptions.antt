-- What is told of an exception, by its record, and of all that are met.
use Rattle.std.specs.Prelude.{ℕ, Option, Some, None}
use Rattle.process_memory.specs.Memory.{Memory}
use Rattle.py_fields.specs.declared.layout.Layout.{Layout}
use Rattle.thread_exceptions.specs.declared.exception.Parts.{Parts}
use Rattle.thread_exceptions.specs.Discovery.{Met}
use Rattle.thread_exceptions.specs.Exceptions.{What}
use Rattle.thread_exceptions.specs.Exceptions.{What as what}
use Rattle.py_exceptions.specs.declared.described.Described.{Described}
use Rattle.py_exceptions.specs.declared.exception.ToldException.{ToldException}
use Rattle.py_exceptions.specs.declared.name.ClassName.{ClassName}
use Rattle.py_exceptions.specs.ClassNames.{class_at}
use Rattle.py_exceptions.specs.Notes.{NotesShown, notes_at, notes_shown}
use Rattle.py_exceptions.specs.Said.{SaidShown, said_at, said_shown}
use Rattle.py_exceptions.specs.Tracebacks.{TracebackShown, traceback_at, traceback_shown}

-- what is told of an exception: its class's name, what it says, its traceback and its notes
pub record ExceptionShown : Type 0 where
  pub class : Option ClassName
  pub said : SaidShown
  pub traceback : TracebackShown
  pub notes : NotesShown

-- what is told of an exception, as the code has it
abbrev pub exception_shown : ToldException → ExceptionShown
exception_shown t = record {
  class = t.class;
  said = said_shown t.said;
  traceback = traceback_shown t.traceback;
  notes = notes_shown t.notes;
}

-- the same, where something is told
abbrev pub told_if : Option ToldException → Option ExceptionShown
told_if None = None
told_if (Some t) = Some (exception_shown t)

-- what is told of an exception, from its parts
abbrev pub exception_with : Option ClassName → SaidShown → TracebackShown → NotesShown → ExceptionShown
exception_with class said traceback notes =
    record { class = class; said = said; traceback = traceback; notes = notes }

-- what is told of the exception at an address, of which this is the record
unfoldable pub exception_at : Layout → Described → Memory → Parts → ℕ → ExceptionShown
exception_at l d m parts at =
    exception_with (class_at l d.class m parts.class) (said_at l d.class d.fields m parts at)
    (traceback_at l d.traceback m parts.traceback) (notes_at l m parts.dict)

-- what is told of an object that was met, by what it is; none where it is no exception or can't be read
abbrev pub told_by : Layout → Described → Memory → ℕ → What → Option ExceptionShown
told_by l d m at (what.Exception parts members) = Some (exception_at l d m parts at)
told_by l d m at what.Other = None
told_by l d m at (what.Lost f) = None

-- what is told of an object that was met, none of one that is no exception
abbrev pub met_told_at : Layout → Described → Memory → Met → Option ExceptionShown
met_told_at l d m x = told_by l d m x.addr x.what
