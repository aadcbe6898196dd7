-- Lists of layouts of which each is sound, and no two cover one version; and what is first at flaw in others.
use Rattle.std.specs.Prelude.{◌≡◌, ℕ, ◌<◌, ◌≤◌, List, All, AllPairs, length, slice_index_or, ◌⊎◌, ⊤}
use Rattle.std.specs.List.{HoldsAt, AllWithin}
use Rattle.py_fields.specs.declared.layout.Layout.{Layout}
use Rattle.py_fields.specs.Sound.{IsSound}
use Rattle.py_layout.specs.declared.error.LayoutError.{LayoutError}
use Rattle.py_layout.specs.declared.error.LayoutError.TheVariants.{NotToml, Shape, Unsound, Clash as Clashing}
use Rattle.py_layout.specs.declared.error.LayoutError.TheVariants.{OutOfMemory}

-- two layouts have one major, and their ranges of minors meet
pub record Clash (a b : Layout) : Type 0 where
  pub major : a.major ≡ b.major
  pub first : a.first_minor ≤ b.last_minor
  pub last : b.first_minor ≤ a.last_minor

-- each layout is sound, and no two clash
pub record AreSound (list : List Layout) : Type 0 where
  pub each : All IsSound list
  pub apart : AllPairs (λ a b. ¬ Clash a b) list

-- of the layouts from `start` on that have the property, the first stands at this place
pub record IsFirstFrom (P : Layout → Type 0) (list : List Layout) (start place : ℕ) : Type 0 where
  pub from : start ≤ place
  pub within : place < length list
  pub here : HoldsAt P list place
  pub before : AllWithin (λ l. ¬ P l) list start place

-- the layout at this place is not sound, and those before it are
pub record IsFirstUnsound (list : List Layout) (table : ℕ) : Type 0 where
  pub within : table < length list
  pub unsound : HoldsAt (λ l. ¬ IsSound l) list table
  pub before : AllWithin IsSound list 0 table

-- the layouts at these places clash
pub record ClashAt (list : List Layout) (first second : ℕ) : Type 0 where
  pub order : first < second
  pub within : second < length list
  pub clash : (d : Layout) → Clash (slice_index_or list first d) (slice_index_or list second d)

-- of the pairs that clash, this one comes first: by its first place, then by its second
pub record IsFirstClash (list : List Layout) (first second : ℕ) : Type 0 where
  pub clash : ClashAt list first second
  pub before : (i j : ℕ) → ClashAt list i j → (first < i) ⊎ ((i ≡ first) × (second ≤ j))

-- what can be wrong with a list of layouts, as against a file
abbrev pub IsOfList : LayoutError → Type 0
IsOfList NotToml = ⊥
IsOfList (Shape table key) = ⊥
IsOfList (Unsound table) = ⊤
IsOfList (Clashing first second) = ⊤
IsOfList OutOfMemory = ⊥
