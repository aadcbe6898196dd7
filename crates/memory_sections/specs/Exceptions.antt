-- The exceptions of the threads that are shown, and the last one of each interpreter that no code handled.
use Rattle.std.specs.Prelude.{◌≡◌, ℕ, Bool, List, Option, Some, None, Vec}
use Rattle.std.specs.Global.{Global}
use Rattle.process_memory.specs.Memory.{Memory}
use Rattle.py_fields.specs.declared.layout.Layout.{Layout}
use Rattle.py_records.specs.declared.records.Records.{Records}
use Rattle.py_exceptions.specs.declared.described.Described.{Described}
use Rattle.py_exceptions.specs.declared.last.LastException.{LastException}
use Rattle.py_exceptions.specs.Described.{AreDescribed}
use Rattle.py_exceptions.specs.Last.{IsLast, last_shown}
use Rattle.py_exceptions.specs.Threads.{IsTold, told_shown}
use Rattle.py_fronts.specs.declared.thread_front.ThreadFront.{ThreadFront}
use Rattle.py_fronts.specs.declared.salvaged.SalvagedInterpreter.{SalvagedInterpreter}
use Rattle.exception_texts.specs.declared.told.ExceptionsOf.{ExceptionsOf}
use Rattle.exception_texts.specs.declared.told.ExceptionsOf.TheVariants.{NotDescribed, Read}
use Rattle.exception_texts.specs.declared.told.InterpreterExceptions.{InterpreterExceptions}
use Rattle.exception_texts.specs.declared.told.ThreadTold.{ThreadTold}
use Rattle.memory_sections.specs.Each.{EachTold, ToldIf}

-- what a thread raises and handles, and all that this leads to, by places
pub record IsThreadTold (l : Layout) (d : Described) (m : Memory) (t : ThreadFront) (told : ThreadTold) : Type 0 where
  pub thread_is : told.thread_id ≡ t.thread_id
  pub are : IsTold l d m t.address (told_shown told.told)

-- those of each thread, or that it is not described where they stand
abbrev pub ExceptionsBy : Layout → Option Described → Memory → List ThreadFront → ExceptionsOf → Type 0
ExceptionsBy l None m ts told = told ≡ NotDescribed
ExceptionsBy l (Some d) m ts NotDescribed = ⊥
ExceptionsBy l (Some d) m ts (Read its) = EachTold (IsThreadTold l d m) ts its.items

-- the last exception that no code handled, of the interpreter at an address, or that it isn't described where it is
abbrev pub LastBy : Layout → Option Described → Memory → ℕ → Option LastException → Type 0
LastBy l None m a told = told ≡ None
LastBy l (Some d) m a None = ⊥
LastBy l (Some d) m a (Some it) = IsLast l d m a (last_shown it)

-- the exceptions of an interpreter's threads, and its last one
pub record AreExceptionsBy (l : Layout) (d : Option Described) (m : Memory) (i : SalvagedInterpreter)
    (told : InterpreterExceptions) : Type 0 where
  pub interpreter_is : told.interpreter ≡ i.front.address
  pub are : ExceptionsBy l d m i.front.threads.threads.items told.exceptions
  pub last : LastBy l d m i.front.address told.last

-- those of each interpreter, by the places that the records describe, if they do
pub record AreExceptions (l : Layout) (r : Records) (m : Memory) (is : List SalvagedInterpreter)
    (told : Vec InterpreterExceptions Global) : Type 0 where
  pub places : Option Described
  pub described : AreDescribed l r places
  pub are : EachTold (AreExceptionsBy l places m) is told.items

-- the exceptions of each interpreter, exactly where they are asked for
abbrev pub ExceptionsAre : Bool → Layout → Records → Memory → List SalvagedInterpreter
    → Option (Vec InterpreterExceptions Global) → Type 0
ExceptionsAre asked l r m is told = ToldIf asked (AreExceptions l r m is) told
