-- The JSON of threads.
use Rattle.std.specs.Prelude.{ℕ, ◌+◌, ◌++◌, List, map, drop, take, reverse, position, Option, Some, None, codes}
use Rattle.std.specs.Prelude.{encode_utf8_all}
use Rattle.serde_json.specs.Data.{Data, array, boolean, member, no_members, null, number, object, string}
use Rattle.serde_json.specs.Data.{unsigned}
use Rattle.serde_json.specs.View.{items_of}
use Rattle.py_fronts.specs.declared.frame_front.FramesFront.{FramesFront}
use Rattle.py_fronts.specs.declared.thread_front.ThreadFront.{ThreadFront}
use Rattle.py_fronts.specs.declared.crash.Crash.{Crash}
use Rattle.py_fronts.specs.declared.lock.LockState.{LockState}
use Rattle.py_fronts.specs.Crashes.{is_crashed}
use Rattle.py_fronts.specs.Locks.{holds_lock}
use Rattle.thread_names.specs.Lookup.{name_of}
use Rattle.thread_names.specs.declared.names.ThreadName.{ThreadName}
use Rattle.salvage_json.specs.Kinds.{address_tree, end_tree}
use Rattle.salvage_json.specs.Members.{standings_tree}
use Rattle.repr_json.specs.declared.shown.ShownValues.{ShownValues}

-- the system's id of a thread as JSON; null where there is none
abbrev pub id_tree : Option ℕ → Data
id_tree (Some id) = number (unsigned id)
id_tree None = null

-- the first frames, how many aren't shown, the last ones, and how they end
abbrev pub frames_tree : ShownValues → FramesFront → Data
frames_tree values f = object (
    member (codes "between") (number (unsigned f.between)) (
    member (codes "end") (end_tree f.end) (
    member (codes "first") (standings_tree values f.first.items) (
    member (codes "last") (standings_tree values f.last.items) (
    member (codes "met") (number (unsigned f.met)) no_members)))))

-- the name that is told of a thread, where one is
abbrev pub name_tree : Option (List ℕ) → Data
name_tree (Some name) = string (encode_utf8_all name)
name_tree None = null

-- a thread with its frames as JSON
abbrev pub thread_tree : ShownValues → LockState → Option Crash → List ThreadName → ThreadFront → Data
thread_tree values lock crash names t = object (
    member (codes "address") (address_tree t.address) (
    member (codes "crashed") (boolean (is_crashed crash t)) (
    member (codes "frames") (frames_tree values t.frames) (
    member (codes "gil") (boolean (holds_lock lock t)) (
    member (codes "name") (name_tree (name_of names t.thread_id)) (
    member (codes "os_thread_id") (id_tree t.os_thread_id) (
    member (codes "thread_id") (number (unsigned t.thread_id)) no_members)))))))

-- threads from the last to the first
abbrev pub reversed_trees : ShownValues → LockState → Option Crash → List ThreadName → List ThreadFront → List Data
reversed_trees values lock crash names threads = map (λ t. thread_tree values lock crash names t) (reverse threads)

-- the one at a place first, and then the others
abbrev pub placed_trees : ShownValues → LockState → Option Crash → List ThreadName → List ThreadFront → Option ℕ
    → List Data
placed_trees values lock crash names threads None = reversed_trees values lock crash names threads
placed_trees values lock crash names threads (Some i) = reversed_trees values lock crash names (take 1 (drop i threads))
    ++ (reversed_trees values lock crash names (drop (i + 1) threads)
    ++ reversed_trees values lock crash names (take i threads))

-- the first one that got the signal, where there is one, and then the others from the last to the first
abbrev pub ordered_trees : ShownValues → LockState → Option Crash → List ThreadName → List ThreadFront → List Data
ordered_trees values lock crash names threads =
    placed_trees values lock crash names threads (position (λ thread. is_crashed crash thread) threads)

-- threads as a JSON array, the one first that got the signal, and then from the last to the first
abbrev pub threads_tree : ShownValues → LockState → Option Crash → List ThreadName → List ThreadFront → Data
threads_tree values lock crash names threads = array (items_of (ordered_trees values lock crash names threads))
