-- The JSON of threads. The keys of an object stand in the order of their bytes.
use Rattle.std.specs.Prelude.{ℕ, ◌++◌, false, List, [], ◌∷◌, map, Option, Some, None, codes}
use Rattle.std.specs.Fmt.{digits}
use Rattle.serde_json.specs.Data.{Data, Members, array, member, no_members, null, number, object, put, string, unsigned}
use Rattle.serde_json.specs.View.{items_of}
use Rattle.thread_registers.specs.declared.threads.Whose.{Whose}
use Rattle.thread_registers.specs.declared.threads.Whose.TheVariants.{Python, Other, Untold}
use Rattle.thread_registers.specs.Threads.{Named, ThreadShown}

-- a value, as in 0x1f: a number of JSON is exact up to 2^53 alone
abbrev pub value_text : ℕ → List ℕ
value_text n = codes "0x" ++ digits 16 false n

-- some members, with these registers put among them, each at its name
unfoldable pub registers_put : List Named → Members → Members
registers_put [] members = members
registers_put (r ∷ rs) members = registers_put rs (put r.name (string (value_text r.value)) members)

-- a thread's registers, as an object with the value of each at its name; null where there are none
abbrev pub registers_tree : Option (List Named) → Data
registers_tree (Some registers) = object (registers_put registers no_members)
registers_tree None = null

-- an object that has a kind alone
abbrev pub kind_tree : List ℕ → Data
kind_tree kind = object (member (codes "kind") (string kind) no_members)

-- whose thread it is
abbrev pub whose_tree : Whose → Data
whose_tree (Python found) = object (
    member (codes "kind") (string (codes "thread")) (
    member (codes "thread_id") (number (unsigned found.thread_id)) no_members))
whose_tree Other = kind_tree (codes "none")
whose_tree Untold = kind_tree (codes "not told")

-- a thread: whose it is, its registers, and the system's id
abbrev pub thread_tree : ThreadShown → Data
thread_tree t = object (
    member (codes "python") (whose_tree t.whose) (
    member (codes "registers") (registers_tree t.registers) (
    member (codes "system_id") (number (unsigned t.system_id)) no_members)))

-- some threads, as an array
abbrev pub threads_tree : List ThreadShown → Data
threads_tree threads = array (items_of (map (λ t. thread_tree t) threads))
