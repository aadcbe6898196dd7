-- One stack of Python's frames and native ones, the newest first. Where a native frame has a run, the Python frames of
-- that run stand in front of it: what it called is newer than they are, and it is older.
use Rattle.std.specs.Prelude.{ℕ, ◌+◌, nat_eq, Bool, true, false, if◌then◌else◌, List, [], ◌∷◌, ◌++◌, map, sum}
use Rattle.std.specs.List.{range_with_len}
use Rattle.native_pairs.specs.declared.item.Item.{Item}
use Rattle.native_pairs.specs.declared.item.Item.TheVariants.{Python, Native, NotFound, Beside}

-- so many Python frames, or native ones, from a number on
abbrev pub pythons : (from count : ℕ) → List Item
pythons from count = map (λ n. Python n) (range_with_len from count)

-- so many native frames, from a number on
abbrev pub natives : (from count : ℕ) → List Item
natives from count = map (λ n. Native n) (range_with_len from count)

-- Python frames behind what is said of them, if there are any
abbrev pub behind_mark : Item → (from count : ℕ) → List Item
behind_mark mark from count = if nat_eq count 0 then [] else mark ∷ pythons from count

-- how many Python frames the next run has, where a native frame has it, and which runs then come
abbrev pub size_if : Bool → List ℕ → ℕ
size_if true (n ∷ runs) = n
size_if true [] = 0
size_if false runs = 0

-- which runs are left behind a native frame: all but the next one, where it has that
abbrev pub rest_if : Bool → List ℕ → List ℕ
rest_if true (n ∷ runs) = runs
rest_if true [] = []
rest_if false runs = runs

-- by which native frames have a run, and how many Python frames each run has: what stands from these numbers on
unfoldable pub merged_from : List Bool → (runs : List ℕ) → (native python : ℕ) → List Item
merged_from [] runs native python = behind_mark NotFound python (sum runs)
merged_from (has ∷ takes) runs native python =
    pythons python (size_if has runs)
    ++ Native native ∷ merged_from takes (rest_if has runs) (native + 1) (python + size_if has runs)

-- both in one
abbrev pub merged_items : List Bool → (runs : List ℕ) → List Item
merged_items takes runs = merged_from takes runs 0 0

-- one below the other
abbrev pub apart_items : (frames : ℕ) → (runs : List ℕ) → List Item
apart_items frames runs = natives 0 frames ++ behind_mark Beside 0 (sum runs)

-- ---- what of both is there

-- the Python frames, in order
unfoldable pub pythons_in : List Item → List ℕ
pythons_in [] = []
pythons_in (Python n ∷ others) = n ∷ pythons_in others
pythons_in (Native n ∷ others) = pythons_in others
pythons_in (NotFound ∷ others) = pythons_in others
pythons_in (Beside ∷ others) = pythons_in others

-- the native frames, in order
unfoldable pub natives_in : List Item → List ℕ
natives_in [] = []
natives_in (Python n ∷ others) = natives_in others
natives_in (Native n ∷ others) = n ∷ natives_in others
natives_in (NotFound ∷ others) = natives_in others
natives_in (Beside ∷ others) = natives_in others

-- all numbers below one, in order
abbrev pub numbers : ℕ → List ℕ
numbers count = range_with_len 0 count
