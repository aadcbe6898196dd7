-- The JSON of a value: what each of the values in it is, by its kind. It follows from the tree but for the decimals of
-- floats, of which one is there that reads back.
use Rattle.std.specs.Prelude.{◌≡◌, ℕ, suc, List, [], ◌∷◌, codes}
use Rattle.serde_json.specs.Data.{Data, array, item, member, no_items, no_members, number, object, string, unsigned}
use Rattle.serde_json.specs.View.{items_of}
use Rattle.python_literals.specs.Floats.{IsFloatText}
use Rattle.py_reprs.specs.declared.repr.ItemsForm.{ItemsForm}
use Rattle.py_reprs.specs.declared.repr.ItemsForm.TheVariants as items
use Rattle.py_reprs.specs.Trees.{Tree, Trees}
use Rattle.py_reprs.specs.Trees.Tree.{Absent, Nothing, Ellipsis, NotImplemented, Truth, Integer, SmallInteger}
use Rattle.py_reprs.specs.Trees.Tree.{HugeInteger, Float, Complex, Text, Bytes, Items, Pairs, Class, Function, Builtin}
use Rattle.py_reprs.specs.Trees.Tree.{Module, Coroutine, Opaque, Instance, Lost, Damaged}
use Rattle.py_reprs.specs.Trees.Trees.{no_trees, tree}
use Rattle.repr_json.specs.Leaves.{coroutine_tree}
use Rattle.repr_json.specs.Leaves.{bytes_tree, complex_tree, damaged_tree, float_tree, function_tree, huge_tree}
use Rattle.repr_json.specs.Leaves.{instance_tree, integer_tree, kind_tree, lost_tree, named_tree, opaque_tree, part_tree}
use Rattle.repr_json.specs.Leaves.{small_integer_tree, text_tree, truth_tree}

-- the word for a container
abbrev pub items_kind : ItemsForm → List ℕ
items_kind items.List = codes "list"
items_kind items.Tuple = codes "tuple"
items_kind items.Set = codes "set"
items_kind items.FrozenSet = codes "frozenset"
items_kind items.Range = codes "range"
items_kind items.Slice = codes "slice"
items_kind items.Cell = codes "cell"
items_kind items.Method = codes "method"

-- a container by what it shows, and how many more there are
abbrev pub items_tree : List ℕ → List Data → ℕ → Data
items_tree kind parts left_out = object (
    member (codes "items") (array (items_of parts)) (
    member (codes "kind") (string kind) (
    member (codes "more") (number (unsigned left_out)) no_members)))

-- a key and its value
abbrev pub pair_tree : Data → Data → Data
pair_tree key value = array (item key (item value no_items))

-- keys and values side by side, as many as there are of both
abbrev pub pair_trees : List Data → List Data → List Data
pair_trees [] values = []
pair_trees (key ∷ keys) [] = []
pair_trees (key ∷ keys) (value ∷ values) = pair_tree key value ∷ pair_trees keys values

-- the JSON of a float
pub record IsFloatTree (bits : ℕ) (d : Data) : Type 0 where
  pub decimal : List ℕ
  pub reads_back : IsFloatText bits decimal
  pub is : d ≡ float_tree bits decimal

-- that of a part of a complex number
pub record IsPartTree (bits : ℕ) (d : Data) : Type 0 where
  pub decimal : List ℕ
  pub reads_back : IsFloatText bits decimal
  pub is : d ≡ part_tree bits decimal

-- the JSON of a complex number, of which each part reads back to its bits
pub record IsComplexTree (real imaginary : ℕ) (d : Data) : Type 0 where
  pub left : Data
  pub left_is : IsPartTree real left
  pub right : Data
  pub right_is : IsPartTree imaginary right
  pub is : d ≡ complex_tree left right

unfoldable mutual
  -- the JSON of a value
  pub IsJson : Tree → Data → Type 0
  IsJson Absent d = d ≡ kind_tree (codes "absent")
  IsJson Nothing d = d ≡ kind_tree (codes "none")
  IsJson Ellipsis d = d ≡ kind_tree (codes "ellipsis")
  IsJson NotImplemented d = d ≡ kind_tree (codes "not implemented")
  IsJson (Truth truth) d = d ≡ truth_tree truth
  IsJson (Integer form is_negative digits) d = d ≡ integer_tree form is_negative digits
  IsJson (SmallInteger z) d = d ≡ small_integer_tree z
  IsJson (HugeInteger form is_negative count highest) d = d ≡ huge_tree form is_negative count
  IsJson (Float bits) d = IsFloatTree bits d
  IsJson (Complex real imaginary) d = IsComplexTree real imaginary d
  IsJson (Text form front length) d = d ≡ text_tree form front length
  IsJson (Bytes form front length) d = d ≡ bytes_tree form front length
  IsJson (Items form trees left_out) d =
      (parts : List Data) × AreJson trees parts × (d ≡ items_tree (items_kind form) parts left_out)
  IsJson (Pairs keys values left_out) d = (ks vs : List Data) × AreJson keys ks × AreJson values vs
      × (d ≡ items_tree (codes "dict") (pair_trees ks vs) left_out)
  IsJson (Class name addr) d = d ≡ named_tree (codes "class") name addr
  IsJson (Function name file line addr) d = d ≡ function_tree name file line addr
  IsJson (Builtin name addr) d = d ≡ named_tree (codes "builtin") name addr
  IsJson (Module name addr) d = d ≡ named_tree (codes "module") name addr
  IsJson (Coroutine form name state addr) d = d ≡ coroutine_tree form name state addr
  IsJson (Opaque class addr) d = d ≡ opaque_tree class addr
  IsJson (Instance class addr names values left_out) d = (ns vs : List Data) × AreJson names ns × AreJson values vs
      × (d ≡ instance_tree class addr (pair_trees ns vs) left_out)
  IsJson (Lost kind addr len) d = d ≡ lost_tree kind addr len
  IsJson (Damaged kind addr) d = d ≡ damaged_tree kind addr

  -- that of each of some values, one behind the other
  pub AreJson : Trees → List Data → Type 0
  AreJson no_trees ds = ds ≡ []
  AreJson (tree first rest) [] = ⊥
  AreJson (tree first rest) (d ∷ ds) = IsJson first d × AreJson rest ds
