-- Values as they are shown, by their addresses.
use Rattle.std.specs.Prelude.{◌≡◌, ℕ, nat_eq, Bool, false, if◌then◌else◌, List, Option, Some, None, option_map}
use Rattle.std.specs.Prelude.{string_bytes}
use Rattle.std.specs.BTreeMap.{get}
use Rattle.std.specs.Ordering.{nat_cmp}
use Rattle.serde_json.specs.Data.{Data}
use Rattle.serde_json.specs.View.{view}
use Rattle.serde_json.specs.Written.{has_float}
use Rattle.py_reprs.specs.Trees.{Tree}
use Rattle.repr_texts.specs.Writing.{Writes}
use Rattle.repr_json.specs.Trees.{IsJson}
use Rattle.repr_json.specs.declared.shown.ShownValues.{ShownValues}

-- the text that is kept for an address
unfoldable pub text_in : ShownValues → ℕ → Option (List ℕ)
text_in s a = option_map string_bytes (get nat_cmp s.texts a)

-- the JSON that is kept for it
unfoldable pub data_in : ShownValues → ℕ → Option Data
data_in s a = option_map view (get nat_cmp s.trees a)

-- the name of its type, where that is known
abbrev pub known_type : Option (Option (List ℕ)) → Option (List ℕ)
known_type None = None
known_type (Some name) = name

-- the name of a type that is kept for it
unfoldable pub type_in : ShownValues → ℕ → Option (List ℕ)
type_in s a = known_type (get nat_cmp s.types a)

-- no JSON that is kept has one of JSON's floats, whose texts aren't pinned
abbrev pub kept_float : Option Data → Bool
kept_float None = false
kept_float (Some d) = has_float d

-- no JSON that is kept, of any address, has one of JSON's floats
abbrev pub HasNoFloat : ShownValues → Type 0
HasNoFloat s = (a : ℕ) → kept_float (data_in s a) ≡ false

-- a text of a value is kept for an address, and nothing else is changed
pub record KeepsText (addr : ℕ) (value : Tree) (old new : ShownValues) : Type 0 where
  pub text : List ℕ
  pub written : Writes value text
  pub texts : (a : ℕ) → text_in new a ≡ if nat_eq addr a then Some text else text_in old a
  pub trees : (a : ℕ) → data_in new a ≡ data_in old a
  pub types : (a : ℕ) → type_in new a ≡ type_in old a

-- the JSON of a value is, and nothing else is changed
pub record KeepsJson (addr : ℕ) (value : Tree) (old new : ShownValues) : Type 0 where
  pub tree : Data
  pub is_json : IsJson value tree
  pub no_float : has_float tree ≡ false
  pub trees : (a : ℕ) → data_in new a ≡ if nat_eq addr a then Some tree else data_in old a
  pub texts : (a : ℕ) → text_in new a ≡ text_in old a
  pub types : (a : ℕ) → type_in new a ≡ type_in old a

-- the name of the type of a value is, or that it has none
pub record KeepsType (addr : ℕ) (name : Option (List ℕ)) (old new : ShownValues) : Type 0 where
  pub types : (a : ℕ) → type_in new a ≡ if nat_eq addr a then name else type_in old a
  pub texts : (a : ℕ) → text_in new a ≡ text_in old a
  pub trees : (a : ℕ) → data_in new a ≡ data_in old a
