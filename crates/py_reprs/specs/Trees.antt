-- Values as they are shown: trees. What a tree says of each kind is this project's own.
use Rattle.std.specs.Prelude.{ℕ, ℤ, Bool, Option, List, [], ◌∷◌}
use Rattle.py_reprs.specs.declared.coroutines.CoroutineForm.{CoroutineForm}
use Rattle.py_reprs.specs.declared.coroutines.CoroutineState.{CoroutineState}
use Rattle.py_reprs.specs.declared.kinds.Kind.{Kind}
use Rattle.py_reprs.specs.declared.repr.BytesForm.{BytesForm}
use Rattle.py_reprs.specs.declared.repr.IntegerForm.{IntegerForm}
use Rattle.py_reprs.specs.declared.repr.ItemsForm.{ItemsForm}
use Rattle.py_reprs.specs.declared.repr.TextForm.{TextForm}
use Rattle.py_reprs.specs.declared.repr.Repr.{Repr, fold-Repr}
use Rattle.py_reprs.specs.declared.repr.Repr.TheOpen.{Repr-F}

mutual
  -- a value; `Repr` says of each case what it holds
  pub data Tree : Type 0 where
    Absent : Tree
    Nothing : Tree
    Ellipsis : Tree
    NotImplemented : Tree
    Truth : Bool → Tree
    Integer : IntegerForm → (is_negative : Bool) → (digits : List ℕ) → Tree
    SmallInteger : ℤ → Tree
    HugeInteger : IntegerForm → (is_negative : Bool) → (digits highest : ℕ) → Tree
    Float : (bits : ℕ) → Tree
    Complex : (real imaginary : ℕ) → Tree
    Text : TextForm → (front : List ℕ) → (length : ℕ) → Tree
    Bytes : BytesForm → (front : List ℕ) → (length : ℕ) → Tree
    Items : ItemsForm → Trees → (left_out : ℕ) → Tree
    Pairs : (keys values : Trees) → (left_out : ℕ) → Tree
    Class : (name : Option (List ℕ)) → (addr : ℕ) → Tree
    Function : (name file : Option (List ℕ)) → (line addr : ℕ) → Tree
    Builtin : (name : Option (List ℕ)) → (addr : ℕ) → Tree
    Module : (name : Option (List ℕ)) → (addr : ℕ) → Tree
    Coroutine : CoroutineForm → (name : Option (List ℕ)) → Option CoroutineState → (addr : ℕ) → Tree
    Opaque : (class : Option (List ℕ)) → (addr : ℕ) → Tree
    Instance : (class : Option (List ℕ)) → (addr : ℕ) → (names values : Trees) → (left_out : ℕ) → Tree
    Lost : Kind → (addr len : ℕ) → Tree
    Damaged : Kind → (addr : ℕ) → Tree

  -- values, one behind the other
  pub data Trees : Type 0 where
    no_trees : Trees
    tree : Tree → Trees → Trees

-- trees in a list of their own
abbrev pub trees_of : List Tree → Trees
trees_of [] = no_trees
trees_of (t ∷ ts) = tree t (trees_of ts)

-- one level of a value that was read, with the values in it already seen as trees
abbrev pub tree_step : Repr-F Tree → Tree
tree_step Repr-F.Absent = Absent
tree_step Repr-F.Nothing = Nothing
tree_step Repr-F.Ellipsis = Ellipsis
tree_step Repr-F.NotImplemented = NotImplemented
tree_step (Repr-F.Truth b) = Truth b
tree_step (Repr-F.Integer form is_negative digits) = Integer form is_negative digits.items
tree_step (Repr-F.SmallInteger z) = SmallInteger z
tree_step (Repr-F.HugeInteger form is_negative digits highest) = HugeInteger form is_negative digits highest
tree_step (Repr-F.Float bits) = Float bits
tree_step (Repr-F.Complex real imaginary) = Complex real imaginary
tree_step (Repr-F.Text form front length) = Text form front.items length
tree_step (Repr-F.Bytes form front length) = Bytes form front.items length
tree_step (Repr-F.Items form items left_out) = Items form (trees_of items.items) left_out
tree_step (Repr-F.Pairs keys values left_out) = Pairs (trees_of keys.items) (trees_of values.items) left_out
tree_step (Repr-F.Class name addr) = Class name addr
tree_step (Repr-F.Function name file line addr) = Function name file line addr
tree_step (Repr-F.Builtin name addr) = Builtin name addr
tree_step (Repr-F.Module name addr) = Module name addr
tree_step (Repr-F.Coroutine form name state addr) = Coroutine form name state addr
tree_step (Repr-F.Opaque class addr) = Opaque class addr
tree_step (Repr-F.Instance class addr names values left_out) =
    Instance class addr (trees_of names.items) (trees_of values.items) left_out
tree_step (Repr-F.Lost kind addr len) = Lost kind addr len
tree_step (Repr-F.Damaged kind addr) = Damaged kind addr

-- the tree that was read
abbrev pub tree_of : Repr → Tree
tree_of = fold-Repr Tree tree_step
