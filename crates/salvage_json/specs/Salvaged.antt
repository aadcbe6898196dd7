-- The JSON of what is left of a process.
use Rattle.std.specs.Prelude.{ℕ, ℤ, ◌+◌, ◌++◌, if◌then◌else◌, List, map, drop, take, Option, Some, None}
use Rattle.std.specs.Prelude.{codes, encode_utf8_all}
use Rattle.serde_json.specs.Data.{Data, array, boolean, member, no_members, null, number, object, string}
use Rattle.serde_json.specs.Data.{unsigned}
use Rattle.serde_json.specs.Find.{of_integer}
use Rattle.serde_json.specs.View.{items_of}
use Rattle.py_fronts.specs.Salvaged.{first_crashed}
use Rattle.py_fronts.specs.declared.crash.Crash.{Crash}
use Rattle.py_fronts.specs.declared.salvaged.SalvagedInterpreter.{SalvagedInterpreter}
use Rattle.py_fronts.specs.declared.search.Looked.{Looked}
use Rattle.thread_names.specs.Lookup.{threads_named}
use Rattle.thread_names.specs.declared.names.InterpreterNames.{InterpreterNames}
use Rattle.salvage_json.specs.Kinds.{address_tree, end_tree, lock_tree}
use Rattle.salvage_json.specs.Threads.{threads_tree}
use Rattle.repr_json.specs.declared.shown.ShownValues.{ShownValues}

-- an interpreter with its threads as JSON
abbrev pub interpreter_tree : ShownValues → Option Crash → List InterpreterNames → SalvagedInterpreter → Data
interpreter_tree values crash names i = object (
    member (codes "address") (address_tree i.front.address) (
    member (codes "lock") (lock_tree i.lock) (
    member (codes "searched") (boolean i.front.searched) (
    member (codes "threads") (threads_tree values i.lock crash (threads_named names i.front.address)
    i.front.threads.threads.items) (
    member (codes "threads_end") (end_tree i.front.threads.end) no_members)))))

-- interpreters as JSON, each by itself, in order
abbrev pub interpreter_trees : ShownValues → Option Crash → List InterpreterNames → List SalvagedInterpreter
    → List Data
interpreter_trees values crash names is = map (λ i. interpreter_tree values crash names i) is

-- the one at a place first, and then the others
abbrev pub placed_trees : ShownValues → Option Crash → List InterpreterNames → List SalvagedInterpreter → Option ℕ
    → List Data
placed_trees values crash names is None = interpreter_trees values crash names is
placed_trees values crash names is (Some i) = interpreter_trees values crash names (take 1 (drop i is))
    ++ (interpreter_trees values crash names (take i is) ++ interpreter_trees values crash names (drop (i + 1) is))

-- the first one of which a thread got the signal, where there is one, and then the others in order
abbrev pub ordered_trees : ShownValues → Option Crash → List InterpreterNames → List SalvagedInterpreter → List Data
ordered_trees values crash names is = placed_trees values crash names is (first_crashed crash is)

-- a process's interpreters as a JSON array, the one first of which a thread got the signal
abbrev pub interpreters_tree : ShownValues → Option Crash → List InterpreterNames → List SalvagedInterpreter → Data
interpreters_tree values crash names is = array (items_of (ordered_trees values crash names is))

-- what a search looked at that ended before all was looked at
abbrev pub ended_tree : Looked → Data
ended_tree l = if l.ended
    then object (
    member (codes "addresses") (number (unsigned l.addresses)) (
    member (codes "members") (number (unsigned l.members)) no_members))
    else null

-- the process that a core tells, where it tells one
abbrev pub process_tree : Option (ℤ × List ℕ) → Data
process_tree None = null
process_tree (Some process) = object (
    member (codes "arguments") (string (encode_utf8_all process.1)) (
    member (codes "pid") (number (of_integer process.0)) no_members))

-- the number of the signal as JSON; null where there is none
abbrev pub signal_tree : Option ℤ → Data
signal_tree None = null
signal_tree (Some signal) = number (of_integer signal)
