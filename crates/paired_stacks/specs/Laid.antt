-- The Python frames of a thread and its native ones in one stack: by the addresses of the borders of its runs from 3.11
-- on, and up to 3.10 by the order of both, where the numbers allow it (CPython's Python/ceval.c, as in native_pairs).
use Rattle.std.specs.Prelude.{◌≡◌, ℕ, ◌+◌, nat_eq, Bool, true, false, List, length, map, Option, Some, None}
use Rattle.std.specs.Prelude.{get_or}
use Rattle.std.specs.List.{sum}
use Rattle.native_pairs.specs.Items.{apart_items, merged_items}
use Rattle.native_pairs.specs.Order.{ordered}
use Rattle.native_pairs.specs.Pairs.{IsPairedByAddress}
use Rattle.native_pairs.specs.declared.item.Item.{Item}
use Rattle.native_pairs.specs.declared.part.Part.{Part}
use Rattle.py_runs.specs.declared.cut.Run.{Run}
use Rattle.py_runs.specs.declared.run_rule.RunEnd.{RunEnd}
use Rattle.py_runs.specs.declared.run_rule.RunEnd.TheVariants.{Each, Entry, Shim}
use Rattle.paired_stacks.specs.declared.laid.Pairing.{Pairing}
use Rattle.paired_stacks.specs.declared.laid.Pairing.TheVariants.{Address, Order, Apart}

-- how many Python frames a run has
abbrev pub size_of : Run → ℕ
size_of r = r.frames

-- the address of the record that CPython keeps in the C function that executes a run, where it is known
abbrev pub border_of : Run → Option ℕ
border_of r = r.border

-- how many frames are told of a thread: those shown first, those between, and those shown last
abbrev pub total_of : List ℕ → ℕ
total_of frames = get_or frames 0 0 + get_or frames 1 0 + get_or frames 2 0

-- one below the other
pub record IsApart (natives : ℕ) (frames : List ℕ) (pairing : Pairing) (items : List Item) : Type 0 where
  pub by : pairing ≡ Apart
  pub are : items ≡ apart_items natives frames

-- both in one stack, by which native frames have a run, and how that was found
pub record IsMerged (told : Pairing) (takes : List Bool) (sizes : List ℕ) (pairing : Pairing) (items : List Item)
    : Type 0 where
  pub by : pairing ≡ told
  pub are : items ≡ merged_items takes sizes

-- by the order of both, where the numbers allow it
abbrev pub IsOrdered : Option (List Bool) → (natives : ℕ) → (sizes frames : List ℕ) → Pairing → List Item → Type 0
IsOrdered (Some takes) natives sizes frames pairing items = IsMerged Order takes sizes pairing items
IsOrdered None natives sizes frames pairing items = IsApart natives frames pairing items

-- by the order of both, or else one below the other
abbrev pub IsByOrder : (steps : List Bool) → (sizes frames : List ℕ) → Pairing → List Item → Type 0
IsByOrder steps sizes frames pairing items =
    IsOrdered (ordered steps (length sizes)) (length steps) sizes frames pairing items

-- by the addresses of borders
pub record IsByAddress (parts : List Part) (sizes : List ℕ) (runs : List Run) (pairing : Pairing) (items : List Item)
    : Type 0 where
  pub takes : List Bool
  pub paired : IsPairedByAddress parts (map border_of runs) takes
  pub merged : IsMerged Address takes sizes pairing items

-- by the order of both where each frame is a run (up to 3.10), by the addresses of borders from 3.11 on
abbrev pub IsLaid : RunEnd → List Part → (steps : List Bool) → (sizes : List ℕ) → List Run → (frames : List ℕ) → Pairing
    → List Item → Type 0
IsLaid Each parts steps sizes runs frames pairing items = IsByOrder steps sizes frames pairing items
IsLaid (Entry place current previous) parts steps sizes runs frames pairing items =
    IsByAddress parts sizes runs pairing items
IsLaid (Shim place owner) parts steps sizes runs frames pairing items = IsByAddress parts sizes runs pairing items

-- the runs have all frames that are told, or both stand one below the other
abbrev pub IsLaidWhere : (are_all : Bool) → RunEnd → List Part → (steps : List Bool) → List Run → (frames : List ℕ)
    → Pairing → List Item → Type 0
IsLaidWhere true end parts steps runs frames pairing items =
    IsLaid end parts steps (map size_of runs) runs frames pairing items
IsLaidWhere false end parts steps runs frames pairing items = IsApart (length steps) frames pairing items

-- in one stack if the sizes of the runs add up to the frames that are told, else one below the other
abbrev pub IsLaidIf : RunEnd → List Part → (steps : List Bool) → List Run → (frames : List ℕ) → Pairing → List Item
    → Type 0
IsLaidIf end parts steps runs frames pairing items =
    IsLaidWhere (nat_eq (sum (map size_of runs)) (total_of frames)) end parts steps runs frames pairing items
