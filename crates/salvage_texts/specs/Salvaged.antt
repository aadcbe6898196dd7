-- The text of what is left of a process's stacks.
use Rattle.std.specs.Prelude.{ℕ, ◌+◌, ◌++◌, nat_lt, Bool, true, false, if◌then◌else◌, List, [], length, map, drop, take}
use Rattle.std.specs.Prelude.{Option, Some, None, codes, decimal}
use Rattle.std.specs.List.{concat}
use Rattle.py_fronts.specs.declared.fronts.InterpreterFront.{InterpreterFront}
use Rattle.py_fronts.specs.declared.crash.Crash.{Crash}
use Rattle.py_fronts.specs.declared.lock.LockState.{LockState}
use Rattle.py_fronts.specs.declared.lock.LockState.TheVariants.{Holder, Unreadable}
use Rattle.py_fronts.specs.declared.salvaged.Salvaged.{Salvaged}
use Rattle.py_fronts.specs.declared.salvaged.SalvagedInterpreter.{SalvagedInterpreter}
use Rattle.py_fronts.specs.declared.search.Looked.{Looked}
use Rattle.core_texts.specs.Parts.{address_text}
use Rattle.thread_names.specs.Lookup.{threads_named}
use Rattle.thread_names.specs.declared.names.InterpreterNames.{InterpreterNames}
use Rattle.salvage_texts.specs.Ends.{missing_text, threads_end_text}
use Rattle.py_fronts.specs.Salvaged.{first_crashed}
use Rattle.salvage_texts.specs.Threads.{threads_text}
use Rattle.repr_json.specs.declared.shown.ShownValues.{ShownValues}

-- that an interpreter was found by search alone; nothing where it wasn't
abbrev pub searched_text : Bool → List ℕ
searched_text searched = if searched then codes " (found by search)" else []

-- the line of an interpreter, where there are several
abbrev pub heading_text : Bool → InterpreterFront → List ℕ
heading_text false i = []
heading_text true i = codes "Interpreter " ++ (address_text i.address
    ++ (searched_text i.searched ++ codes "\n"))

-- the line of a lock that can't be read
abbrev pub lock_text : LockState → List ℕ
lock_text (Holder holder) = []
lock_text (Unreadable addr len) = codes "... lock " ++ (missing_text addr len ++ codes "\n")

-- an interpreter's lines: its own, a lock that can't be read, how its chain of threads ends, and the threads
abbrev pub interpreter_text : ShownValues → Bool → Option Crash → List InterpreterNames → SalvagedInterpreter → List ℕ
interpreter_text values several crash names i = heading_text several i.front ++ (lock_text i.lock
    ++ (threads_end_text i.front.threads.end ++ threads_text values i.lock crash
    (threads_named names i.front.address) i.front.threads.threads.items))

-- the lines of several interpreters, in order
abbrev pub interpreters_text : ShownValues → Bool → Option Crash → List InterpreterNames → List SalvagedInterpreter
    → List ℕ
interpreters_text values several crash names is = concat (map (λ i. interpreter_text values several crash names i) is)

-- the lines of several interpreters: the one at a place first, and then the others in order
abbrev pub placed_interpreters : ShownValues → Bool → Option Crash → List InterpreterNames → List SalvagedInterpreter
    → Option ℕ → List ℕ
placed_interpreters values several crash names is None = interpreters_text values several crash names is
placed_interpreters values several crash names is (Some i) =
    interpreters_text values several crash names (take 1 (drop i is))
    ++ (interpreters_text values several crash names (take i is)
    ++ interpreters_text values several crash names (drop (i + 1) is))

-- the first one of which a thread got the signal, where there is one, and then the others in order
abbrev pub ordered_text : ShownValues → Option Crash → List InterpreterNames → List SalvagedInterpreter → List ℕ
ordered_text values crash names is =
    placed_interpreters values (nat_lt 1 (length is)) crash names is (first_crashed crash is)

-- the line that says that there are more interpreters than 16, which are shown
abbrev pub more_text : Bool → List ℕ
more_text more = if more then codes "... more than 16 interpreters\n" else []

-- the line of a search that ended before all was looked at
abbrev pub ended_text : Looked → List ℕ
ended_text looked = if looked.ended
    then codes "... the search ended after " ++ (decimal looked.members ++ (codes " members and "
    ++ (decimal looked.addresses ++ codes " addresses\n")))
    else []

-- the text of what is left of a process's stacks
abbrev pub salvaged_text : ShownValues → List InterpreterNames → Salvaged → List ℕ
salvaged_text values names s = ordered_text values s.crash names s.interpreters.items
    ++ (more_text s.more ++ ended_text s.looked)
