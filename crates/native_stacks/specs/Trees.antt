-- The JSON of native stacks. The keys of an object stand in the order of their bytes.
use Rattle.std.specs.Prelude.{ℕ, List, map, Option, Some, None, codes}
use Rattle.serde_json.specs.Data.{Data, array, boolean, member, no_members, null, number, object, unsigned}
use Rattle.serde_json.specs.View.{items_of}
use Rattle.native_frames.specs.Threads.{StackShown}
use Rattle.native_frames.specs.Trees.{stack_tree}
use Rattle.thread_registers.specs.Trees.{whose_tree}
use Rattle.native_stacks.specs.Stacks.{StacksShown}
use Rattle.native_stacks.specs.Threads.{NativeShown}

-- a stack; null where there is none
abbrev pub part_tree : List (List ℕ) → (limit : ℕ) → Option StackShown → Data
part_tree files limit (Some s) = stack_tree files limit s
part_tree files limit None = null

-- a thread: whether it got the signal, whose it is, its stacks, and the system's id
abbrev pub thread_tree : List (List ℕ) → (limit : ℕ) → NativeShown → Data
thread_tree files limit t = object (
    member (codes "crashed") (boolean t.is_crashed) (
    member (codes "guessed") (part_tree files limit t.guessed) (
    member (codes "python") (whose_tree t.whose) (
    member (codes "stack") (part_tree files limit t.stack) (
    member (codes "system_id") (number (unsigned t.system_id)) no_members)))))

-- some threads, as an array
abbrev pub threads_tree : List (List ℕ) → (limit : ℕ) → List NativeShown → Data
threads_tree files limit threads = array (items_of (map (λ t. thread_tree files limit t) threads))

-- the native stacks of a process, as an array of its threads
abbrev pub stacks_tree : (limit : ℕ) → StacksShown → Data
stacks_tree limit s = threads_tree s.files limit s.threads
