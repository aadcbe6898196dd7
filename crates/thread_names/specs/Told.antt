-- The names of an interpreter's threads, as they are told: of each thread the name that its object has, of the last
-- entry under its id in the dict of threads that the interpreter's module `threading` keeps (CPython's
-- Lib/threading.py).
use Rattle.std.specs.Prelude.{◌≡◌, ℕ, List, map, Option, Some, None, option_map, MatchOption, Result}
use Rattle.std.specs.Prelude.{Ok, Err}
use Rattle.std.specs.BTreeMap.{BTreeMap, get}
use Rattle.std.specs.Ordering.{nat_cmp}
use Rattle.process_memory.specs.Memory.{Fault, Found, Memory}
use Rattle.py_fields.specs.declared.layout.Layout.{Layout}
use Rattle.py_builtins.specs.declared.keys.Slots.{Slots}
use Rattle.py_names.specs.NamesError.{names_fault}
use Rattle.py_names.specs.declared.names_error.NamesError.{NamesError}
use Rattle.thread_names.specs.declared.keys.Keyed.{Keyed}
use Rattle.thread_names.specs.declared.names.InterpreterNames.{InterpreterNames}
use Rattle.thread_names.specs.declared.names.ThreadName.{ThreadName}
use Rattle.thread_names.specs.declared.own.DictRule.{DictRule}
use Rattle.thread_names.specs.Active.{active_at}
use Rattle.thread_names.specs.Keys.{KeysTold, keys_in, thread_under}
use Rattle.thread_names.specs.Own.{name_at}

-- a thread, its name, and why that can't be read: the inner option is that of an error, of which out of memory is none
pub record NameShown : Type 0 where
  pub id : ℕ
  pub name : Option (List ℕ)
  pub fault : Option (Option Fault)

-- a thread's name, or why it can't be read
abbrev pub shown : ℕ → Option (List ℕ) → Option (Option Fault) → NameShown
shown id name fault = record { id = id; name = name; fault = fault }

-- a thread without a name
abbrev pub unnamed : ℕ → NameShown
unnamed id = shown id None None

-- a thread's name by what was found
abbrev pub name_by : ℕ → Found (Option (List ℕ)) → NameShown
name_by id (Ok name) = shown id name None
name_by id (Err f) = shown id None (Some (Some f))

-- the thread of an id, by the address under it
abbrev pub name_told : Layout → Option DictRule → Memory → ℕ → Option ℕ → NameShown
name_told l rule m id None = unnamed id
name_told l rule m id (Some thread) = name_by id (name_at l rule m thread)

-- the same, where these are the entries of the dict
abbrev pub name_under : Layout → Option DictRule → Memory → List Keyed → ℕ → NameShown
name_under l rule m keys id = name_told l rule m id (thread_under keys id)

-- the threads of some ids, how many slots have none whose id is known, and why no name is told
pub record NamesShown : Type 0 where
  pub interpreter : ℕ
  pub threads : List NameShown
  pub unread : ℕ
  pub fault : Option (Option Fault)

-- the names of an interpreter's threads, with how many keys can't be read
abbrev pub names : ℕ → List NameShown → ℕ → Option (Option Fault) → NamesShown
names interpreter threads unread fault =
    record { interpreter = interpreter; threads = threads; unread = unread; fault = fault }

-- the names of threads, by the keys of `threading._active`
abbrev pub names_by_keys : Layout → Option DictRule → Memory → ℕ → List ℕ → KeysTold → NamesShown
names_by_keys l rule m interpreter ids keys =
    names interpreter (map (name_under l rule m keys.list) ids) keys.unread None

-- threads without names, and why they can't be read
abbrev pub no_names : ℕ → List ℕ → Option (Option Fault) → NamesShown
no_names interpreter ids fault = names interpreter (map unnamed ids) 0 fault

-- the names of threads, by what was found of `threading._active`
abbrev pub names_by : Layout → Option DictRule → Memory → ℕ → List ℕ → Found (Option Slots) → NamesShown
names_by l rule m interpreter ids (Ok None) = no_names interpreter ids None
names_by l rule m interpreter ids (Ok (Some s)) = names_by_keys l rule m interpreter ids (keys_in l m s)
names_by l rule m interpreter ids (Err f) = no_names interpreter ids (Some (Some f))

-- what is told of an interpreter, of the threads with these ids
unfoldable pub names_told : Layout → Option DictRule → Memory → ℕ → List ℕ → NamesShown
names_told l rule m interpreter ids = names_by l rule m interpreter ids (active_at l m interpreter)

-- ---- as it is read

-- the fault of an error, where there is one
abbrev pub fault_shown : Option NamesError → Option (Option Fault)
fault_shown fault = option_map names_fault fault

-- a thread's name that was read
abbrev pub thread_shown : ThreadName → NameShown
thread_shown t = shown t.thread_id t.name (fault_shown t.fault)

-- the names of an interpreter's threads that were read
abbrev pub names_shown : InterpreterNames → NamesShown
names_shown n = names n.interpreter (map thread_shown n.threads.items) n.unread (fault_shown n.fault)

-- the thread of an id, by a map of threads
abbrev pub name_in : Layout → Option DictRule → Memory → BTreeMap ℕ ℕ → ℕ → NameShown
name_in l rule m threads id = name_told l rule m id (get nat_cmp threads id)

-- the thread of an id by what was read of its name; out of memory is handed on
abbrev pub IsToldBy : ℕ → Result (Option (List ℕ)) NamesError → ThreadName → Type 0
IsToldBy id (Ok name) told = thread_shown told ≡ shown id name None
IsToldBy id (Err e) told = MatchOption (names_fault e) ⊥ (λ f. thread_shown told ≡ shown id None (Some (Some f)))

-- no name is told, since the dict of threads can't be read; out of memory is handed on
abbrev pub IsLost : ℕ → List ℕ → NamesError → InterpreterNames → Type 0
IsLost interpreter ids e told =
    MatchOption (names_fault e) ⊥ (λ f. names_shown told ≡ no_names interpreter ids (Some (Some f)))
