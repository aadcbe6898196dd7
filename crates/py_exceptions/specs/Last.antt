-- The last exception that no code handled. Python keeps it in the module `sys` as it prints it (`_PyErr_PrintEx`,
-- Python/pythonrun.c): from 3.12 on under `last_exc`, before under `last_value`. An interpreter has its modules in a dict, by
-- their names (`sys.modules`), and a module its own values in one. That what can't be read is told so, and how many slots
-- and objects are looked at, is this project's rule.
use Rattle.std.specs.Prelude.{◌≡◌, ℕ, ◌+◌, Bool, true, false, not, if◌then◌else◌, List, [], ◌∷◌, map, codes}
use Rattle.std.specs.Prelude.{Option, Some, None, Ok, Err}
use Rattle.process_memory.specs.Memory.{Found, Memory, ◌>>=◌, word_at}
use Rattle.process_memory.specs.Memory.Fault.{NoDicts}
use Rattle.py_fields.specs.declared.layout.Dicts.{Dicts}
use Rattle.py_fields.specs.declared.layout.Dicts.TheVariants.{Absent, General, Compact}
use Rattle.py_fields.specs.declared.layout.Layout.{Layout}
use Rattle.py_builtins.specs.Types.{type_at}
use Rattle.py_names.specs.Typed.{beside}
use Rattle.thread_exceptions.specs.declared.places.RaisedPlaces.{RaisedPlaces}
use Rattle.thread_exceptions.specs.declared.places.RaisedPlaces.TheVariants as places
use Rattle.thread_exceptions.specs.Discovery.{AreMet, Met}
use Rattle.thread_exceptions.specs.Exceptions.{What, what_at}
use Rattle.thread_exceptions.specs.Exceptions.{What as what}
use Rattle.thread_exceptions.specs.Links.End.{Stops}
use Rattle.thread_exceptions.specs.Links.{Stop as stop}
use Rattle.thread_exceptions.specs.Thread.{Raised as raised}
use Rattle.py_exceptions.specs.declared.described.Described.{Described}
use Rattle.py_exceptions.specs.declared.last.LastException.{LastException}
use Rattle.py_exceptions.specs.declared.last.LastFound.{LastFound}
use Rattle.py_exceptions.specs.declared.last.LastFound.TheVariants as founds
use Rattle.py_exceptions.specs.declared.last.LastName.{LastName}
use Rattle.py_exceptions.specs.declared.last.LastName.TheVariants as names
use Rattle.py_exceptions.specs.Entries.{entry_at}
use Rattle.py_exceptions.specs.Exceptions.{ExceptionShown, met_told_at}
use Rattle.py_exceptions.specs.Faults.{found_or_none}
use Rattle.py_exceptions.specs.Threads.{ToldShown, told_shown}

-- ---- where it stands

-- from 3.12 on, as a thread names the exception itself that is raised, else the one of before
abbrev pub last_name : RaisedPlaces → LastName
last_name (places.Exception at) = names.Exc
last_name (places.Parts klass value) = names.Value

-- the name in `sys` under which the last exception stands
abbrev pub key_of : LastName → List ℕ
key_of names.Exc = codes "last_exc"
key_of names.Value = codes "last_value"

-- what a module has under a name, where there is a module
unfoldable pub attribute_at : Layout → Memory → List ℕ → Option ℕ → Found (Option ℕ)
attribute_at l m name None = Ok None
attribute_at l m name (Some a) = do
  t ← type_at l m a
  dict ← word_at m (beside a t.dict_offset)
  entry_at l m dict name

-- what an interpreter's `sys` has under a name
unfoldable pub sys_value_at : Layout → Memory → ℕ → List ℕ → Found (Option ℕ)
sys_value_at l m interpreter name = do
  modules ← word_at m (interpreter + l.interpreter.modules)
  found ← entry_at l m modules (codes "sys")
  attribute_at l m name found

-- what was found in a dict, where the layout has dicts; else the fault that it lacks them
abbrev pub value_by : Dicts → Found (Option ℕ) → Found (Option ℕ)
value_by Absent found = Err NoDicts
value_by General found = found
value_by Compact found = found

-- the same, where the layout has dicts
unfoldable pub value_at : Layout → Memory → ℕ → List ℕ → Found (Option ℕ)
value_at l m interpreter name = value_by l.dicts (sys_value_at l m interpreter name)

-- what `sys` has under a name, if anything
unfoldable pub set_at : Layout → Memory → ℕ → List ℕ → Found (Option (Option ℕ))
set_at l m interpreter name = do
  found ← value_at l m interpreter name
  Ok (Some found)

-- what is known of it
abbrev pub known_set : Layout → Memory → ℕ → LastName → Option (Option ℕ)
known_set l m interpreter name = found_or_none (set_at l m interpreter (key_of name))

-- ---- what it is

-- nothing; the object at an address, with what is told of it; or what `sys` has can't be read
pub data FoundShown : Type 0 where
  Nothing : FoundShown
  Exception : (address : ℕ) → ToldShown → FoundShown
  Unreadable : FoundShown

-- under which name `sys` has the last exception, and what is found there
pub record LastShown : Type 0 where
  pub name : LastName
  pub found : FoundShown

-- told as what a thread raises that handles nothing
abbrev pub alone : ℕ → List Met → List (Option ExceptionShown) → ToldShown
alone a met told = record {
  thread = record { raised = raised.Exception a; handled = []; end = Stops stop.Null; met = met };
  raised = None;
  told = told;
}

-- an object that is known to be no exception, as `None`
abbrev pub is_other : What → Bool
is_other (what.Exception parts members) = false
is_other what.Other = true
is_other (what.Lost f) = false

-- the first of the objects that were met may be one
abbrev pub may_be : List Met → Bool
may_be [] = false
may_be (x ∷ xs) = not (is_other x.what)

-- the object at an address, with all that was met from there on; nothing where it is known to be no exception
abbrev pub found_of : ℕ → List Met → List (Option ExceptionShown) → FoundShown
found_of a met told = if may_be met then Exception a (alone a met told) else Nothing

-- what is told of the object at an address: it and all that it leads to, each once
pub record IsFoundAt (l : Layout) (d : Described) (m : Memory) (a : ℕ) (found : FoundShown) : Type 0 where
  pub met : List Met
  pub are_met : AreMet (what_at d.thread m) 1024 (a ∷ []) met
  pub is : found ≡ found_of a met (map (λ x. met_told_at l d m x) met)

-- what is told of what `sys` has, where it has anything
abbrev pub IsFoundIn : Layout → Described → Memory → Option ℕ → FoundShown → Type 0
IsFoundIn l d m None found = found ≡ Nothing
IsFoundIn l d m (Some a) found = IsFoundAt l d m a found

-- the same, where it is known what it has
abbrev pub IsFoundBy : Layout → Described → Memory → Option (Option ℕ) → FoundShown → Type 0
IsFoundBy l d m None found = found ≡ Unreadable
IsFoundBy l d m (Some value) found = IsFoundIn l d m value found

-- the last exception that no code handled, of the interpreter with the record at an address
pub record IsLast (l : Layout) (d : Described) (m : Memory) (interpreter : ℕ) (shown : LastShown) : Type 0 where
  pub name : shown.name ≡ last_name d.thread.raised
  pub found : IsFoundBy l d m (known_set l m interpreter (last_name d.thread.raised)) shown.found

-- how many reads it takes at most
abbrev pub last_reads : ℕ
last_reads = 120748040

-- ---- as it is read

-- what was found, as the code has it
abbrev pub found_shown : LastFound → FoundShown
found_shown founds.Nothing = Nothing
found_shown (founds.Exception a told) = Exception a (told_shown told)
found_shown founds.Unreadable = Unreadable

-- the last exception, as the code has it
abbrev pub last_shown : LastException → LastShown
last_shown t = record { name = t.name; found = found_shown t.found }
