-- The JSON of paired stacks. The keys of an object stand in the order of their bytes.
use Rattle.std.specs.Prelude.{ℕ, Bool, false, List, map, get_or, Option, Some, None, codes}
use Rattle.serde_json.specs.Data.{Data, array, boolean, member, no_members, null, number, object, string, unsigned}
use Rattle.serde_json.specs.View.{items_of}
use Rattle.native_frames.specs.Text.{address_text}
use Rattle.thread_registers.specs.Trees.{kind_tree}
use Rattle.native_pairs.specs.declared.item.Item.{Item}
use Rattle.native_pairs.specs.declared.item.Item.TheVariants.{Python, Native, NotFound, Beside}
use Rattle.paired_stacks.specs.declared.laid.Pairing.{Pairing}
use Rattle.paired_stacks.specs.declared.laid.Pairing.TheVariants.{Address, Order, Apart}
use Rattle.paired_stacks.specs.declared.stack.PairedStack.{PairedStack}

-- a Python frame, by its number in its thread
abbrev pub python_tree : ℕ → Data
python_tree frame = object (
    member (codes "frame") (number (unsigned frame)) (
    member (codes "kind") (string (codes "python")) no_members))

-- a native frame, by its number in its thread, and whether it is hidden
abbrev pub native_tree : ℕ → Bool → Data
native_tree frame is_hidden = object (
    member (codes "frame") (number (unsigned frame)) (
    member (codes "hidden") (boolean is_hidden) (
    member (codes "kind") (string (codes "native")) no_members)))

-- a frame, or what is said of the Python frames that follow
abbrev pub item_tree : (hidden : List Bool) → Item → Data
item_tree hidden (Python frame) = python_tree frame
item_tree hidden (Native frame) = native_tree frame (get_or hidden frame false)
item_tree hidden NotFound = kind_tree (codes "not found")
item_tree hidden Beside = kind_tree (codes "beside")

-- the items of a stack, as an array
abbrev pub items_tree : (hidden : List Bool) → List Item → Data
items_tree hidden items = array (items_of (map (λ i. item_tree hidden i) items))

-- the word for how both were brought into one stack
abbrev pub pairing_name : Pairing → List ℕ
pairing_name Address = codes "address"
pairing_name Order = codes "order"
pairing_name Apart = codes "apart"

-- a stack: its items, how it was paired, and the address of the thread's record
abbrev pub stack_tree : PairedStack → Data
stack_tree s = object (
    member (codes "items") (items_tree s.hidden.items s.items.items) (
    member (codes "pairing") (string (pairing_name s.pairing)) (
    member (codes "thread") (string (address_text s.thread)) no_members)))

-- a stack; null where the thread is none of Python's
abbrev pub stack_tree_if : Option PairedStack → Data
stack_tree_if None = null
stack_tree_if (Some s) = stack_tree s

-- the stacks of all threads, as an array
abbrev pub all_tree : List (Option PairedStack) → Data
all_tree stacks = array (items_of (map (λ s. stack_tree_if s) stacks))
