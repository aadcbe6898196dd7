-- The JSON of a value has none of JSON's floats.
use Rattle.std.proofs.Common.{◌≡◌, ℕ, ℤ, pos, negsuc, Bool, true, false, List, [], ◌∷◌, Option, Some, None, refl, ap, ◌∙◌}
use Rattle.std.specs.Prelude.{◌||◌, ◌^◌, ◌&&◌, int_le, neg_ℤ, codes, if◌then◌else◌}
use Rattle.std.specs.Fmt.{signed_decimal}
use Rattle.serde_json.specs.Data.{Data, number, string, object, member, no_members, array, item, no_items}
use Rattle.serde_json.specs.Find.{of_integer}
use Rattle.serde_json.specs.View.{items_of}
use Rattle.serde_json.specs.Written.{has_float, items_have_float}
use Rattle.py_reprs.specs.Trees.{Tree, Trees}
use Rattle.py_reprs.specs.Trees.Tree.{Absent, Nothing, Ellipsis, NotImplemented, Truth, Integer, SmallInteger}
use Rattle.py_reprs.specs.Trees.Tree.{HugeInteger, Float, Complex, Text, Bytes, Items, Pairs, Class, Function, Builtin}
use Rattle.py_reprs.specs.Trees.Tree.{Module, Coroutine, Opaque, Instance, Lost, Damaged}
use Rattle.py_reprs.specs.Trees.Trees.{no_trees, tree}
use Rattle.repr_json.specs.Leaves.{instance_tree, name_tree, number_or_text, signed, small_integer_tree, small_number}
use Rattle.repr_json.specs.Leaves.{complex_tree, part_tree, state_tree}
use Rattle.py_reprs.specs.declared.coroutines.CoroutineState.{CoroutineState}
use Rattle.repr_json.specs.Trees.{AreJson, IsJson, items_kind, items_tree, pair_trees, pair_tree}

or_first : (a b : Bool) → (a || b) ≡ false → a ≡ false
or_first false b h = refl
or_first true b h = absurd (cc)

or_second : (a b : Bool) → (a || b) ≡ false → b ≡ false
or_second false b h = h
or_second true b h = absurd (cc)

or_both : (a b : Bool) → a ≡ false → b ≡ false → (a || b) ≡ false
or_both false b h k = k
or_both true b h k = absurd (cc)

integer : (z : ℤ) → has_float (number (of_integer z)) ≡ false
integer (pos n) = refl
integer (negsuc n) = refl

told : (is_negative : Bool) (digits : List ℕ) (small : Option ℕ) → has_float (number_or_text is_negative digits small) ≡ false
told is_negative digits (Some n) = integer (signed is_negative n)
told is_negative digits None = refl

small_or : (b : Bool) (z : ℤ)
    → has_float (if b then number (of_integer z) else string (signed_decimal z)) ≡ false
small_or true z = integer z
small_or false z = refl

name : (n : Option (List ℕ)) → has_float (name_tree n) ≡ false
name (Some n) = refl
name None = refl

pairs : (ks vs : List Data) → items_have_float (items_of ks) ≡ false → items_have_float (items_of vs) ≡ false
    → items_have_float (items_of (pair_trees ks vs)) ≡ false
pairs [] vs h k = refl
pairs (x ∷ ks) [] h k = refl
pairs (x ∷ ks) (y ∷ vs) h k =
    or_both (has_float (pair_tree x y)) (items_have_float (items_of (pair_trees ks vs)))
    (or_both (has_float x) (has_float y || false) (or_first (has_float x) (items_have_float (items_of ks)) h)
    (ap (λ b. b || false) (or_first (has_float y) (items_have_float (items_of vs)) k)))
    (pairs ks vs (or_second (has_float x) (items_have_float (items_of ks)) h)
    (or_second (has_float y) (items_have_float (items_of vs)) k))

container : (kind : List ℕ) (parts : List Data) (n : ℕ) → items_have_float (items_of parts) ≡ false
    → has_float (items_tree kind parts n) ≡ false
container kind parts n h = ap (λ b. b || false) h

instance : (class : Option (List ℕ)) (addr : ℕ) (parts : List Data) (n : ℕ) → items_have_float (items_of parts) ≡ false
    → has_float (instance_tree class addr parts n) ≡ false
instance class addr parts n h = or_both (items_have_float (items_of parts)) (has_float (name_tree class) || false) h
    (ap (λ b. b || false) (name class))

state : (s : Option CoroutineState) → has_float (state_tree s) ≡ false
state None = refl
state (Some s) = refl

mutual
  unfolding IsJson

  pub no_float : (t : Tree) (d : Data) → IsJson t d → has_float d ≡ false
  no_float Absent d is = ap has_float is
  no_float Nothing d is = ap has_float is
  no_float Ellipsis d is = ap has_float is
  no_float NotImplemented d is = ap has_float is
  no_float (Truth truth) d is = ap has_float is
  no_float (Integer form is_negative digits) d is =
      ap has_float is ∙ ap (λ b. b || false) (told is_negative digits (small_number digits))
  no_float (SmallInteger z) d is = ap has_float is ∙ ap (λ b. b || false)
      (small_or (int_le (neg_ℤ (pos (2 ^ 53))) z && int_le z (pos (2 ^ 53))) z)
  no_float (HugeInteger form is_negative count highest) d is = ap has_float is
  no_float (Float bits) d is = ap has_float is.is
  no_float (Complex real imaginary) d is = ap has_float is.is
      ∙ ap (λ x. has_float (complex_tree x is.right)) is.left_is.is
      ∙ ap (λ x. has_float (complex_tree (part_tree real is.left_is.decimal) x)) is.right_is.is
  no_float (Text form front length) d is = ap has_float is
  no_float (Bytes form front length) d is = ap has_float is
  no_float (Items form trees left_out) d is = ap has_float is.2
      ∙ container (items_kind form) is.0 left_out (no_floats trees is.0 is.1)
  no_float (Pairs keys values left_out) d is = ap has_float is.4
      ∙ container (codes "dict") (pair_trees is.0 is.1) left_out (pairs is.0 is.1 (no_floats keys is.0 is.2) (no_floats values is.1 is.3))
  no_float (Class n addr) d is = ap has_float is ∙ ap (λ b. b || false) (name n)
  no_float (Function n file line addr) d is = ap has_float is
      ∙ (λ i. name file i || (false || (false || (name n i || false))))
  no_float (Builtin n addr) d is = ap has_float is ∙ ap (λ b. b || false) (name n)
  no_float (Module n addr) d is = ap has_float is ∙ ap (λ b. b || false) (name n)
  no_float (Coroutine form n s addr) d is = ap has_float is
      ∙ ap (λ b. b || (has_float (state_tree s) || false)) (name n) ∙ ap (λ b. b || false) (state s)
  no_float (Opaque class addr) d is = ap has_float is ∙ ap (λ b. b || false) (name class)
  no_float (Instance class addr names values left_out) d is = ap has_float is.4
      ∙ instance class addr (pair_trees is.0 is.1) left_out
      (pairs is.0 is.1 (no_floats names is.0 is.2) (no_floats values is.1 is.3))
  no_float (Lost kind addr len) d is = ap has_float is
  no_float (Damaged kind addr) d is = ap has_float is

  no_floats : (ts : Trees) (ds : List Data) → AreJson ts ds → items_have_float (items_of ds) ≡ false
  no_floats no_trees ds is = ap (λ xs. items_have_float (items_of xs)) is
  no_floats (tree first rest) [] is = absurd is
  no_floats (tree first rest) (d ∷ ds) is =
      or_both (has_float d) (items_have_float (items_of ds)) (no_float first d is.0) (no_floats rest ds is.1)
