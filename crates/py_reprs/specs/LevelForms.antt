-- A value without the values within it.
use Rattle.std.specs.Prelude.{ℕ, List, Option}
use Rattle.py_reprs.specs.declared.places.Place.{Place}
use Rattle.py_reprs.specs.declared.repr.ItemsForm.{ItemsForm}
use Rattle.py_reprs.specs.Trees.{Tree}

-- a value that is shown whole; a row of values; the keys and the values of entries; or the names and the values of
-- attributes of an instance of a class, at an address. Each of the values has a share of the nodes, and so many more are
-- left out
pub data Level : Type 0 where
  Whole : Tree → Level
  Row : ItemsForm → List Place → (share left_out : ℕ) → Level
  Entries : (keys values : List Place) → (share left_out : ℕ) → Level
  Attributes : (class : Option (List ℕ)) → (addr : ℕ) → (names values : List Place) → (share left_out : ℕ) → Level
