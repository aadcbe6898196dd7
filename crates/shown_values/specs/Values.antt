-- The values of locals, as they are shown: for each address of a local that is shown the text of its value, and its
-- JSON where that is asked for.
use Rattle.std.specs.Prelude.{◌≡◌, ℕ, nat_eq, Bool, true, false, if◌then◌else◌, List, Option, Some, None, ⊤}
use Rattle.std.specs.List.{list_any}
use Rattle.serde_json.specs.Data.{Data}
use Rattle.serde_json.specs.Written.{has_float}
use Rattle.py_reprs.specs.Trees.{Tree}
use Rattle.repr_texts.specs.Writing.{Writes}
use Rattle.repr_json.specs.Shown.{KeepsType, data_in, text_in, type_in}
use Rattle.repr_json.specs.Trees.{IsJson}
use Rattle.repr_json.specs.declared.shown.ShownValues.{ShownValues}
use Rattle.local_values.specs.Values.{value_in}
use Rattle.local_values.specs.Values.{type_in as type_read}
use Rattle.local_values.specs.declared.values.LocalValues.{LocalValues}

-- a text is there where a value is, and it is one of the value's
abbrev pub IsTextOf : Option Tree → Option (List ℕ) → Type 0
IsTextOf (Some value) (Some text) = Writes value text
IsTextOf None None = ⊤
IsTextOf _ _ = ⊥

-- so is JSON
abbrev pub IsJsonOf : Option Tree → Option Data → Type 0
IsJsonOf (Some value) (Some d) = IsJson value d × (has_float d ≡ false)
IsJsonOf None None = ⊤
IsJsonOf _ _ = ⊥

-- the value at an address, where that is among some; none where no values were read
abbrev pub value_of : Option LocalValues → List ℕ → ℕ → Option Tree
value_of None addresses a = None
value_of (Some values) addresses a = if list_any (nat_eq a) addresses then value_in values a else None

-- so is the name of its type
abbrev pub type_of : Option LocalValues → List ℕ → ℕ → Option (List ℕ)
type_of None addresses a = None
type_of (Some values) addresses a = if list_any (nat_eq a) addresses then type_read values a else None

-- a value where JSON is asked for
abbrev pub for_json : Bool → Option Tree → Option Tree
for_json json value = if json then value else None

-- the values at some addresses are shown, with the names of their types, and no others
pub record AreShown (json : Bool) (values : Option LocalValues) (addresses : List ℕ) (shown : ShownValues)
    : Type 0 where
  pub texts : (a : ℕ) → IsTextOf (value_of values addresses a) (text_in shown a)
  pub trees : (a : ℕ) → IsJsonOf (for_json json (value_of values addresses a)) (data_in shown a)
  pub types : (a : ℕ) → type_in shown a ≡ type_of values addresses a

-- the JSON of a value is shown at an address from now on, where JSON is asked for, and no other is changed
abbrev pub KeepsTree : Bool → ℕ → Tree → ShownValues → ShownValues → Type 0
KeepsTree true addr value old new = IsJsonOf (Some value) (data_in new addr)
    × ((a : ℕ) → nat_eq addr a ≡ false → data_in new a ≡ data_in old a)
KeepsTree false addr value old new = (a : ℕ) → data_in new a ≡ data_in old a

-- a value is
pub record Keeps (json : Bool) (addr : ℕ) (value : Tree) (old new : ShownValues) : Type 0 where
  pub text : IsTextOf (Some value) (text_in new addr)
  pub texts : (a : ℕ) → nat_eq addr a ≡ false → text_in new a ≡ text_in old a
  pub tree : KeepsTree json addr value old new
  pub types : (a : ℕ) → type_in new a ≡ type_in old a

-- so is one that there may be
abbrev pub KeepsFound : Bool → ℕ → Option Tree → ShownValues → ShownValues → Type 0
KeepsFound json addr None old new = new ≡ old
KeepsFound json addr (Some value) old new = Keeps json addr value old new

-- and the name of its type is
pub record KeepsOne (json : Bool) (addr : ℕ) (value : Option Tree) (name : Option (List ℕ)) (old new : ShownValues)
    : Type 0 where
  pub between : ShownValues
  pub found : KeepsFound json addr value old between
  pub named : KeepsType addr name between new
