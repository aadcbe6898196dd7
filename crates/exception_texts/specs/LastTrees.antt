-- The JSON of exceptions, by interpreters: those of its threads, and the last one that no code handled. The keys of an
-- object stand in the order of their bytes.
use Rattle.std.specs.Prelude.{ℕ, List, map, Option, Some, None, codes}
use Rattle.serde_json.specs.Data.{Data, array, member, no_members, null, object, string}
use Rattle.serde_json.specs.View.{items_of}
use Rattle.exception_texts.specs.Trees.{address_text, objects_tree, threads_tree}
use Rattle.exception_texts.specs.declared.told.ExceptionsOf.{ExceptionsOf}
use Rattle.exception_texts.specs.declared.told.ExceptionsOf.TheVariants.{NotDescribed, Read}
use Rattle.exception_texts.specs.declared.told.InterpreterExceptions.{InterpreterExceptions}
use Rattle.py_exceptions.specs.Last.{key_of}
use Rattle.py_exceptions.specs.declared.last.LastException.{LastException}
use Rattle.py_exceptions.specs.declared.last.LastFound.{LastFound}
use Rattle.py_exceptions.specs.declared.last.LastFound.TheVariants as found
use Rattle.py_exceptions.specs.declared.last.LastName.{LastName}
use Rattle.py_exceptions.specs.declared.thread.ToldThread.{ToldThread}

-- the last exception as JSON: its address, its name in `sys`, and all exceptions that it leads to
abbrev pub alone_tree : List ℕ → ℕ → ToldThread → Data
alone_tree key a t = object (
    member (codes "address") (string (address_text a)) (
    member (codes "exceptions") (objects_tree t) (
    member (codes "kind") (string (codes "exception")) (
    member (codes "name") (string key) no_members))))

-- a last exception that can't be read, as JSON
abbrev pub lost_last_tree : List ℕ → Data
lost_last_tree key = object (
    member (codes "kind") (string (codes "unreadable")) (
    member (codes "name") (string key) no_members))

-- what stands in `sys` under this name, as JSON; null where there is none
abbrev pub found_tree : LastName → LastFound → Data
found_tree name found.Nothing = null
found_tree name (found.Exception a told) = alone_tree (key_of name) a told
found_tree name found.Unreadable = lost_last_tree (key_of name)

-- the last exception that no code handled, as JSON; null where it isn't described
abbrev pub last_tree : Option LastException → Data
last_tree None = null
last_tree (Some t) = found_tree t.name t.found

-- the JSON object of an interpreter: its address, whether exceptions are read, the last one and the threads
abbrev pub kind_tree : ℕ → List ℕ → Data → Data → Data
kind_tree interpreter kind last threads = object (
    member (codes "interpreter") (string (address_text interpreter)) (
    member (codes "kind") (string kind) (
    member (codes "last") last (
    member (codes "threads") threads no_members))))

-- an interpreter's exceptions as JSON; its threads are null where they are not described for its version
abbrev pub of_tree : ℕ → Data → ExceptionsOf → Data
of_tree interpreter last NotDescribed = kind_tree interpreter (codes "not described") last null
of_tree interpreter last (Read threads) = kind_tree interpreter (codes "read") last (threads_tree threads.items)

-- an interpreter's exceptions as JSON
abbrev pub interpreter_tree : InterpreterExceptions → Data
interpreter_tree i = of_tree i.interpreter (last_tree i.last) i.exceptions

-- those of each interpreter, in order
abbrev pub all_exceptions_tree : List InterpreterExceptions → Data
all_exceptions_tree its = array (items_of (map (λ i. interpreter_tree i) its))
