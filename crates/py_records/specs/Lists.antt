-- Lists of tables of which each is sound, and no two have the same group for one version; and what is first at flaw in
-- others.
use Rattle.std.specs.Prelude.{◌≡◌, ℕ, ◌<◌, ◌≤◌, List, All, AllPairs, length, slice_index_or, ◌⊎◌, ⊤}
use Rattle.std.specs.List.{HoldsAt, AllWithin}
use Rattle.py_records.specs.declared.table.RecordTable.{RecordTable}
use Rattle.py_records.specs.Table.{IsSoundTable, Clash}
use Rattle.py_records.specs.declared.error.RecordsError.{RecordsError}
use Rattle.py_records.specs.declared.error.RecordsError.TheVariants.{NotToml, Shape, Unsound, Clash as Clashing}
use Rattle.py_records.specs.declared.error.RecordsError.TheVariants.{OutOfMemory}

-- each table is sound, and no two clash
pub record AreSound (list : List RecordTable) : Type 0 where
  pub each : All IsSoundTable list
  pub apart : AllPairs (λ a b. ¬ Clash a b) list

-- of the tables from `start` on that have the property, the first stands at this place
pub record IsFirstFrom (P : RecordTable → Type 0) (list : List RecordTable) (start place : ℕ) : Type 0 where
  pub from : start ≤ place
  pub within : place < length list
  pub here : HoldsAt P list place
  pub before : AllWithin (λ l. ¬ P l) list start place

-- the table at this place is not sound, and those before it are
pub record IsFirstUnsound (list : List RecordTable) (table : ℕ) : Type 0 where
  pub within : table < length list
  pub unsound : HoldsAt (λ l. ¬ IsSoundTable l) list table
  pub before : AllWithin IsSoundTable list 0 table

-- the tables at these places clash
pub record ClashAt (list : List RecordTable) (first second : ℕ) : Type 0 where
  pub order : first < second
  pub within : second < length list
  pub clash : (d : RecordTable) → Clash (slice_index_or list first d) (slice_index_or list second d)

-- of the pairs that clash, this one comes first: by its first place, then by its second
pub record IsFirstClash (list : List RecordTable) (first second : ℕ) : Type 0 where
  pub clash : ClashAt list first second
  pub before : (i j : ℕ) → ClashAt list i j → (first < i) ⊎ ((i ≡ first) × (second ≤ j))

-- what can be wrong with a list of tables, as against a file
abbrev pub IsOfList : RecordsError → Type 0
IsOfList NotToml = ⊥
IsOfList (Shape table key) = ⊥
IsOfList (Unsound table) = ⊤
IsOfList (Clashing first second) = ⊤
IsOfList OutOfMemory = ⊥
