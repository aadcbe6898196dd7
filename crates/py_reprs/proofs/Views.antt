-- A value that was read, level by level, and the tree that it is.
use Rattle.std.proofs.Common.{◌≡◌, ℕ, List, Option, Vec, Global, Bool, rules, map}
use Rattle.std.specs.Prelude.{ℤ}
use Rattle.py_reprs.specs.declared.coroutines.CoroutineForm.{CoroutineForm}
use Rattle.py_reprs.specs.declared.coroutines.CoroutineState.{CoroutineState}
use Rattle.py_reprs.specs.declared.kinds.Kind.{Kind}
use Rattle.py_reprs.specs.declared.repr.BytesForm.{BytesForm}
use Rattle.py_reprs.specs.declared.repr.IntegerForm.{IntegerForm}
use Rattle.py_reprs.specs.declared.repr.ItemsForm.{ItemsForm}
use Rattle.py_reprs.specs.declared.repr.TextForm.{TextForm}
use Rattle.py_reprs.specs.declared.repr.Repr.{Repr, the_lemmas}
use Rattle.py_reprs.specs.declared.repr.Repr.TheVariants as read
use Rattle.py_reprs.specs.Trees.{tree_of, trees_of}
use Rattle.py_reprs.specs.Trees.Tree.{Absent, Nothing, Ellipsis, NotImplemented, Truth, Integer, SmallInteger, HugeInteger, Float, Complex, Text, Bytes, Items, Pairs, Class, Function, Builtin, Module, Coroutine, Opaque, Instance, Lost, Damaged}

pub tree-Absent : tree_of read.Absent ≡ Absent
tree-Absent = search (rules, the_lemmas)

pub tree-Nothing : tree_of read.Nothing ≡ Nothing
tree-Nothing = search (rules, the_lemmas)

pub tree-Ellipsis : tree_of read.Ellipsis ≡ Ellipsis
tree-Ellipsis = search (rules, the_lemmas)

pub tree-NotImplemented : tree_of read.NotImplemented ≡ NotImplemented
tree-NotImplemented = search (rules, the_lemmas)

pub tree-Truth : (b : Bool) → tree_of (read.Truth b) ≡ Truth b
tree-Truth b = search (rules, the_lemmas)

pub tree-Integer : (form : IntegerForm) (is_negative : Bool) (digits : Vec ℕ Global)
    → tree_of (read.Integer form is_negative digits) ≡ Integer form is_negative digits.items
tree-Integer form is_negative digits = search (rules, the_lemmas)

pub tree-SmallInteger : (z : ℤ) → tree_of (read.SmallInteger z) ≡ SmallInteger z
tree-SmallInteger z = search (rules, the_lemmas)

pub tree-HugeInteger : (form : IntegerForm) (is_negative : Bool) (digits : ℕ) (highest : ℕ)
    → tree_of (read.HugeInteger form is_negative digits highest) ≡ HugeInteger form is_negative digits highest
tree-HugeInteger form is_negative digits highest = search (rules, the_lemmas)

pub tree-Float : (bits : ℕ) → tree_of (read.Float bits) ≡ Float bits
tree-Float bits = search (rules, the_lemmas)

pub tree-Complex : (real : ℕ) (imaginary : ℕ) → tree_of (read.Complex real imaginary) ≡ Complex real imaginary
tree-Complex real imaginary = search (rules, the_lemmas)

pub tree-Text : (form : TextForm) (front : Vec ℕ Global) (length : ℕ)
    → tree_of (read.Text form front length) ≡ Text form front.items length
tree-Text form front length = search (rules, the_lemmas)

pub tree-Bytes : (form : BytesForm) (front : Vec ℕ Global) (length : ℕ)
    → tree_of (read.Bytes form front length) ≡ Bytes form front.items length
tree-Bytes form front length = search (rules, the_lemmas)

pub tree-Items : (form : ItemsForm) (items : Vec Repr Global) (left_out : ℕ)
    → tree_of (read.Items form items left_out) ≡ Items form (trees_of (map tree_of items.items)) left_out
tree-Items form items left_out = search (rules, the_lemmas)

pub tree-Pairs : (keys : Vec Repr Global) (values : Vec Repr Global) (left_out : ℕ)
    → tree_of (read.Pairs keys values left_out) ≡ Pairs (trees_of (map tree_of keys.items)) (trees_of (map tree_of values.items)) left_out
tree-Pairs keys values left_out = search (rules, the_lemmas)

pub tree-Class : (name : Option (List ℕ)) (addr : ℕ) → tree_of (read.Class name addr) ≡ Class name addr
tree-Class name addr = search (rules, the_lemmas)

pub tree-Function : (name : Option (List ℕ)) (file : Option (List ℕ)) (line : ℕ) (addr : ℕ)
    → tree_of (read.Function name file line addr) ≡ Function name file line addr
tree-Function name file line addr = search (rules, the_lemmas)

pub tree-Builtin : (name : Option (List ℕ)) (addr : ℕ) → tree_of (read.Builtin name addr) ≡ Builtin name addr
tree-Builtin name addr = search (rules, the_lemmas)

pub tree-Module : (name : Option (List ℕ)) (addr : ℕ) → tree_of (read.Module name addr) ≡ Module name addr
tree-Module name addr = search (rules, the_lemmas)

pub tree-Coroutine : (form : CoroutineForm) (name : Option (List ℕ)) (state : Option CoroutineState) (addr : ℕ)
    → tree_of (read.Coroutine form name state addr) ≡ Coroutine form name state addr
tree-Coroutine form name state addr = search (rules, the_lemmas)

pub tree-Opaque : (class : Option (List ℕ)) (addr : ℕ) → tree_of (read.Opaque class addr) ≡ Opaque class addr
tree-Opaque class addr = search (rules, the_lemmas)

pub tree-Instance : (class : Option (List ℕ)) (addr : ℕ) (names : Vec Repr Global) (values : Vec Repr Global) (left_out : ℕ)
    → tree_of (read.Instance class addr names values left_out) ≡ Instance class addr (trees_of (map tree_of names.items)) (trees_of (map tree_of values.items)) left_out
tree-Instance class addr names values left_out = search (rules, the_lemmas)

pub tree-Lost : (kind : Kind) (addr : ℕ) (len : ℕ) → tree_of (read.Lost kind addr len) ≡ Lost kind addr len
tree-Lost kind addr len = search (rules, the_lemmas)

pub tree-Damaged : (kind : Kind) (addr : ℕ) → tree_of (read.Damaged kind addr) ≡ Damaged kind addr
tree-Damaged kind addr = search (rules, the_lemmas)
