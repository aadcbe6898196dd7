-- The JSON of threads that wait. The keys of an object stand in the order of their bytes.
use Rattle.std.specs.Prelude.{ℕ, ◌++◌, false, List, map, Option, Some, None, codes}
use Rattle.std.specs.Fmt.{digits}
use Rattle.serde_json.specs.Data.{Data, array, member, no_members, null, number, object, string, unsigned}
use Rattle.serde_json.specs.View.{items_of}
use Rattle.py_waits.specs.declared.told.InterpreterWaits.{InterpreterWaits}
use Rattle.py_waits.specs.declared.told.ThreadWait.{ThreadWait}
use Rattle.py_waits.specs.declared.wait.Wait.{Wait}
use Rattle.py_waits.specs.declared.wait.Wait.TheVariants.{Interpreter, Lock, Rlock, Queue}

-- an address, as in 0x1f
abbrev pub address_text : ℕ → List ℕ
address_text n = codes "0x" ++ digits 16 false n

-- the JSON of an object that is waited for, by its kind and its address
abbrev pub object_tree : List ℕ → ℕ → Data
object_tree kind a = object (
    member (codes "address") (string (address_text a)) (
    member (codes "kind") (string kind) no_members))

-- the JSON of the id of the thread that holds a reentrant lock; null where it isn't known
abbrev pub owner_tree : Option ℕ → Data
owner_tree None = null
owner_tree (Some owner) = number (unsigned owner)

-- the JSON of a reentrant lock, with the id of its owner
abbrev pub rlock_tree : ℕ → Option ℕ → Data
rlock_tree a owner = object (
    member (codes "address") (string (address_text a)) (
    member (codes "kind") (string (codes "rlock")) (
    member (codes "owner") (owner_tree owner) no_members)))

-- the JSON of what a thread waits for
abbrev pub wait_tree : Wait → Data
wait_tree Interpreter = object (member (codes "kind") (string (codes "gil")) no_members)
wait_tree (Lock a) = object_tree (codes "lock") a
wait_tree (Queue a) = object_tree (codes "queue") a
wait_tree (Rlock a owner) = rlock_tree a owner

-- the same; null where it isn't known
abbrev pub known_tree : Option Wait → Data
known_tree None = null
known_tree (Some wait) = wait_tree wait

-- the JSON of a thread by its id, with what it waits for
abbrev pub thread_tree : ThreadWait → Data
thread_tree t = object (
    member (codes "for") (known_tree t.wait) (
    member (codes "thread_id") (number (unsigned t.thread_id)) no_members))

-- the JSON of an interpreter's threads, in order
abbrev pub threads_tree : List ThreadWait → Data
threads_tree threads = array (items_of (map (λ t. thread_tree t) threads))

-- the JSON of an interpreter by its address, with its threads
abbrev pub interpreter_tree : InterpreterWaits → Data
interpreter_tree i = object (
    member (codes "interpreter") (string (address_text i.interpreter)) (
    member (codes "threads") (threads_tree i.threads.items) no_members))

-- the JSON of all interpreters, in order, with what their threads wait for
abbrev pub waits_tree : List InterpreterWaits → Data
waits_tree waits = array (items_of (map (λ i. interpreter_tree i) waits))
