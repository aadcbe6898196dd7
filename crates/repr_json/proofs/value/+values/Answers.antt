use Rattle.std.proofs.Common.{◌≡◌, ◌∙◌, ap, subst, sym, rules, map, List, [], ℕ, refl}
use Rattle.std.specs.Prelude.{IfOk, Result, Ok, Err}
use Rattle.serde_json.specs.Data.{Data}
use Rattle.serde_json.specs.View.{view}
use Rattle.py_reprs.specs.declared.repr.Repr.{Repr}
use Rattle.py_reprs.specs.Trees.{Tree, tree_of, trees_of}
use Rattle.py_reprs.specs.Trees.Trees.{no_trees}
use Rattle.py_reprs.proofs.Views.{tree-Absent, tree-Nothing, tree-Ellipsis, tree-NotImplemented, tree-Truth}
use Rattle.py_reprs.proofs.Views.{tree-Integer, tree-SmallInteger, tree-HugeInteger, tree-Float, tree-Complex}
use Rattle.py_reprs.proofs.Views.{tree-Text, tree-Bytes, tree-Items, tree-Pairs, tree-Class, tree-Function}
use Rattle.py_reprs.proofs.Views.{tree-Builtin, tree-Coroutine, tree-Module, tree-Opaque, tree-Instance, tree-Lost, tree-Damaged}
use Rattle.repr_json.specs.Leaves.{bytes_tree, integer_tree, text_tree}
use Rattle.repr_json.specs.Trees.{AreJson, IsJson, items_tree, items_kind}
use Rattle.repr_json.proofs.Parts.{more_at, none_is}
use Rattle.repr_json.proofs.value.+values.Goals as goal

pub repr_value-returns-in-Absent : goal.repr_value-returns-in-Absent
unfolding IsJson
repr_value-returns-in-Absent t c =
    subst (λ v. IfOk c.kind_value.result (λ own. IsJson (tree_of v) (view own))) (sym c.in-Absent.is)
    (subst (λ tree. IfOk c.kind_value.result (λ own. IsJson tree (view own))) (sym tree-Absent)
    c.kind_value.ensures)

pub repr_value-returns-in-Nothing : goal.repr_value-returns-in-Nothing
unfolding IsJson
repr_value-returns-in-Nothing t c =
    subst (λ v. IfOk c.kind_value-in-Nothing.result (λ own. IsJson (tree_of v) (view own))) (sym c.in-Nothing.is)
    (subst (λ tree. IfOk c.kind_value-in-Nothing.result (λ own. IsJson tree (view own))) (sym tree-Nothing)
    c.kind_value-in-Nothing.ensures)

pub repr_value-returns-in-Ellipsis : goal.repr_value-returns-in-Ellipsis
unfolding IsJson
repr_value-returns-in-Ellipsis t c =
    subst (λ v. IfOk c.kind_value-in-Ellipsis.result (λ own. IsJson (tree_of v) (view own))) (sym c.in-Ellipsis.is)
    (subst (λ tree. IfOk c.kind_value-in-Ellipsis.result (λ own. IsJson tree (view own))) (sym tree-Ellipsis)
    c.kind_value-in-Ellipsis.ensures)

pub repr_value-returns-in-NotImplemented : goal.repr_value-returns-in-NotImplemented
unfolding IsJson
repr_value-returns-in-NotImplemented t c =
    subst (λ v. IfOk c.kind_value-in-NotImplemented.result (λ own. IsJson (tree_of v) (view own))) (sym c.in-NotImplemented.is)
    (subst (λ tree. IfOk c.kind_value-in-NotImplemented.result (λ own. IsJson tree (view own))) (sym tree-NotImplemented)
    c.kind_value-in-NotImplemented.ensures)

pub repr_value-returns-in-Truth : goal.repr_value-returns-in-Truth
unfolding IsJson
repr_value-returns-in-Truth t c =
    subst (λ v. IfOk c.truth_value.result (λ own. IsJson (tree_of v) (view own))) (sym c.in-Truth.is)
    (subst (λ tree. IfOk c.truth_value.result (λ own. IsJson tree (view own))) (sym (tree-Truth c.in-Truth.truth))
    c.truth_value.ensures)

pub repr_value-returns-in-SmallInteger : goal.repr_value-returns-in-SmallInteger
unfolding IsJson
repr_value-returns-in-SmallInteger t c =
    subst (λ v. IfOk c.small_integer_value.result (λ own. IsJson (tree_of v) (view own))) (sym c.in-SmallInteger.is)
    (subst (λ tree. IfOk c.small_integer_value.result (λ own. IsJson tree (view own))) (sym (tree-SmallInteger c.in-SmallInteger.number))
    c.small_integer_value.ensures)

pub repr_value-returns-in-HugeInteger : goal.repr_value-returns-in-HugeInteger
unfolding IsJson
repr_value-returns-in-HugeInteger t c =
    subst (λ v. IfOk c.huge_value.result (λ own. IsJson (tree_of v) (view own))) (sym c.in-HugeInteger.is)
    (subst (λ tree. IfOk c.huge_value.result (λ own. IsJson tree (view own))) (sym (tree-HugeInteger c.in-HugeInteger.form c.in-HugeInteger.is_negative c.in-HugeInteger.digits c.in-HugeInteger.highest))
    c.huge_value.ensures)

pub repr_value-returns-in-Float : goal.repr_value-returns-in-Float
unfolding IsJson
repr_value-returns-in-Float t c =
    subst (λ v. IfOk c.float_value.result (λ own. IsJson (tree_of v) (view own))) (sym c.in-Float.is)
    (subst (λ tree. IfOk c.float_value.result (λ own. IsJson tree (view own))) (sym (tree-Float c.in-Float.bits))
    c.float_value.ensures)

pub repr_value-returns-in-Complex : goal.repr_value-returns-in-Complex
unfolding IsJson
repr_value-returns-in-Complex t c =
    subst (λ v. IfOk c.complex_value.result (λ own. IsJson (tree_of v) (view own))) (sym c.in-Complex.is)
    (subst (λ tree. IfOk c.complex_value.result (λ own. IsJson tree (view own))) (sym (tree-Complex c.in-Complex.real c.in-Complex.imaginary))
    c.complex_value.ensures)

pub repr_value-returns-in-Class : goal.repr_value-returns-in-Class
unfolding IsJson
repr_value-returns-in-Class t c =
    subst (λ v. IfOk c.named_value.result (λ own. IsJson (tree_of v) (view own))) (sym c.in-Class.is)
    (subst (λ tree. IfOk c.named_value.result (λ own. IsJson tree (view own))) (sym (tree-Class c.in-Class.name c.in-Class.addr))
    c.named_value.ensures)

pub repr_value-returns-in-Function : goal.repr_value-returns-in-Function
unfolding IsJson
repr_value-returns-in-Function t c =
    subst (λ v. IfOk c.function_value.result (λ own. IsJson (tree_of v) (view own))) (sym c.in-Function.is)
    (subst (λ tree. IfOk c.function_value.result (λ own. IsJson tree (view own))) (sym (tree-Function c.in-Function.name c.in-Function.file c.in-Function.line c.in-Function.addr))
    c.function_value.ensures)

pub repr_value-returns-in-Builtin : goal.repr_value-returns-in-Builtin
unfolding IsJson
repr_value-returns-in-Builtin t c =
    subst (λ v. IfOk c.named_value-in-Builtin.result (λ own. IsJson (tree_of v) (view own))) (sym c.in-Builtin.is)
    (subst (λ tree. IfOk c.named_value-in-Builtin.result (λ own. IsJson tree (view own))) (sym (tree-Builtin c.in-Builtin.name c.in-Builtin.addr))
    c.named_value-in-Builtin.ensures)

pub repr_value-returns-in-Module : goal.repr_value-returns-in-Module
unfolding IsJson
repr_value-returns-in-Module t c =
    subst (λ v. IfOk c.named_value-in-Module.result (λ own. IsJson (tree_of v) (view own))) (sym c.in-Module.is)
    (subst (λ tree. IfOk c.named_value-in-Module.result (λ own. IsJson tree (view own))) (sym (tree-Module c.in-Module.name c.in-Module.addr))
    c.named_value-in-Module.ensures)

pub repr_value-returns-in-Coroutine : goal.repr_value-returns-in-Coroutine
unfolding IsJson
repr_value-returns-in-Coroutine t c =
    let it = c.in-Coroutine in
    subst (λ v. IfOk c.coroutine_value.result (λ own. IsJson (tree_of v) (view own))) (sym it.is)
    (subst (λ tree. IfOk c.coroutine_value.result (λ own. IsJson tree (view own)))
    (sym (tree-Coroutine it.form it.name it.state it.addr)) c.coroutine_value.ensures)

pub repr_value-returns-in-Opaque : goal.repr_value-returns-in-Opaque
unfolding IsJson
repr_value-returns-in-Opaque t c =
    subst (λ v. IfOk c.opaque_value.result (λ own. IsJson (tree_of v) (view own))) (sym c.in-Opaque.is)
    (subst (λ tree. IfOk c.opaque_value.result (λ own. IsJson tree (view own))) (sym (tree-Opaque c.in-Opaque.class c.in-Opaque.addr))
    c.opaque_value.ensures)

pub repr_value-returns-in-Lost : goal.repr_value-returns-in-Lost
unfolding IsJson
repr_value-returns-in-Lost t c =
    subst (λ v. IfOk c.lost_value.result (λ own. IsJson (tree_of v) (view own))) (sym c.in-Lost.is)
    (subst (λ tree. IfOk c.lost_value.result (λ own. IsJson tree (view own))) (sym (tree-Lost c.in-Lost.kind c.in-Lost.addr c.in-Lost.len))
    c.lost_value.ensures)

pub repr_value-returns-in-Damaged : goal.repr_value-returns-in-Damaged
unfolding IsJson
repr_value-returns-in-Damaged t c =
    subst (λ v. IfOk c.damaged_value.result (λ own. IsJson (tree_of v) (view own))) (sym c.in-Damaged.is)
    (subst (λ tree. IfOk c.damaged_value.result (λ own. IsJson tree (view own))) (sym (tree-Damaged c.in-Damaged.kind c.in-Damaged.addr))
    c.damaged_value.ensures)

pub repr_value-returns-in-Integer : goal.repr_value-returns-in-Integer
unfolding IsJson
repr_value-returns-in-Integer t c =
    subst (λ v. IfOk c.integer_value.result (λ own. IsJson (tree_of v) (view own))) (sym c.in-Integer.is)
    (subst (λ tree. IfOk c.integer_value.result (λ own. IsJson tree (view own))) (sym (tree-Integer c.in-Integer.form c.in-Integer.is_negative c.in-Integer.digits))
    (subst (λ (ds : List ℕ). IfOk c.integer_value.result (λ own. view own ≡ integer_tree c.in-Integer.form c.in-Integer.is_negative ds)) c.deref.ensures.value
    c.integer_value.ensures))

pub repr_value-returns-in-Text : goal.repr_value-returns-in-Text
unfolding IsJson
repr_value-returns-in-Text t c =
    subst (λ v. IfOk c.text_value.result (λ own. IsJson (tree_of v) (view own))) (sym c.in-Text.is)
    (subst (λ tree. IfOk c.text_value.result (λ own. IsJson tree (view own))) (sym (tree-Text c.in-Text.form c.in-Text.front c.in-Text.length))
    (subst (λ (ds : List ℕ). IfOk c.text_value.result (λ own. view own ≡ text_tree c.in-Text.form ds c.in-Text.length)) c.deref-in-Text.ensures.value
    c.text_value.ensures))

pub repr_value-returns-in-Bytes : goal.repr_value-returns-in-Bytes
unfolding IsJson
repr_value-returns-in-Bytes t c =
    subst (λ v. IfOk c.bytes_value.result (λ own. IsJson (tree_of v) (view own))) (sym c.in-Bytes.is)
    (subst (λ tree. IfOk c.bytes_value.result (λ own. IsJson tree (view own))) (sym (tree-Bytes c.in-Bytes.form c.in-Bytes.front c.in-Bytes.length))
    (subst (λ (ds : List ℕ). IfOk c.bytes_value.result (λ own. view own ≡ bytes_tree c.in-Bytes.form ds c.in-Bytes.length)) c.deref-in-Bytes.ensures.value
    c.bytes_value.ensures))

if_ok : {T E : Type 0} {P Q : T → Type 0} (r : Result T E) → ((x : T) → P x → Q x) → IfOk r P → IfOk r Q
if_ok (Ok x) f h = f x h
if_ok (Err e) f h = h

pub each_value-loop-number-init : goal.each_value-loop-number-init
each_value-loop-number-init t c =
    let none : c.new-own.result.items ≡ [] = search rules in
    subst (λ xs. AreJson no_trees (map view xs)) (sym none) none_is

pub each_value-loop-number-preserved : goal.each_value-loop-number-preserved
each_value-loop-number-preserved t c =
    more_at c.args.values.now c.loop-number.own.items _ _ c.loop-number.number c.index-values-number.result _
    c.loop-number.invariant c.loop-number-test.true c.index-values-number.is c.in_ok-repr_value.ensures
    c.in_ok-push.ensures.items

pub repr_value-returns-in_ok-items-in-Items : goal.repr_value-returns-in_ok-items-in-Items
unfolding IsJson
repr_value-returns-in_ok-items-in-Items t c =
    let parts = map view c.in_ok-items-in-Items.items.items in
    let are = subst (λ xs. AreJson (trees_of (map tree_of xs)) parts) c.deref-in-Items.ensures.value
    c.in_ok-items-in-Items.ensures in
    subst (λ v. IfOk c.container.result (λ own. IsJson (tree_of v) (view own))) (sym c.in-Items.is)
    (subst (λ tree. IfOk c.container.result (λ own. IsJson tree (view own)))
    (sym (tree-Items c.in-Items.form c.in-Items.items c.in-Items.left_out))
    (if_ok c.container.result
    (λ own is. (parts, are, is ∙ ap (λ kind. items_tree kind parts c.in-Items.left_out) c.items_kind.ensures))
    c.container.ensures))

pub repr_value-returns-in_ok-values-in-Pairs : goal.repr_value-returns-in_ok-values-in-Pairs
unfolding IsJson
repr_value-returns-in_ok-values-in-Pairs t c =
    let ks = map view c.in_ok-keys-in-Pairs.keys.items in
    let vs = map view c.in_ok-values-in-Pairs.values.items in
    let each_key = subst (λ xs. AreJson (trees_of (map tree_of xs)) ks) c.deref-in-Pairs.ensures.value
    c.in_ok-keys-in-Pairs.ensures in
    let each_value = subst (λ xs. AreJson (trees_of (map tree_of xs)) vs) c.deref-in-Pairs-2.ensures.value
    c.in_ok-values-in-Pairs.ensures in
    subst (λ v. IfOk c.dict.result (λ own. IsJson (tree_of v) (view own))) (sym c.in-Pairs.is)
    (subst (λ tree. IfOk c.dict.result (λ own. IsJson tree (view own)))
    (sym (tree-Pairs c.in-Pairs.keys c.in-Pairs.values c.in-Pairs.left_out))
    (if_ok c.dict.result (λ own is. (ks, vs, each_key, each_value, is)) c.dict.ensures))

pub repr_value-returns-in_ok-values-in-Instance : goal.repr_value-returns-in_ok-values-in-Instance
unfolding IsJson
repr_value-returns-in_ok-values-in-Instance t c =
    let ns = map view c.in_ok-names-in-Instance.names.items in
    let vs = map view c.in_ok-values-in-Instance.values.items in
    let each_name = subst (λ xs. AreJson (trees_of (map tree_of xs)) ns) c.deref-in-Instance.ensures.value
    c.in_ok-names-in-Instance.ensures in
    let each_value = subst (λ xs. AreJson (trees_of (map tree_of xs)) vs) c.deref-in-Instance-2.ensures.value
    c.in_ok-values-in-Instance.ensures in
    subst (λ v. IfOk c.instance.result (λ own. IsJson (tree_of v) (view own))) (sym c.in-Instance.is)
    (subst (λ tree. IfOk c.instance.result (λ own. IsJson tree (view own)))
    (sym (tree-Instance c.in-Instance.class c.in-Instance.addr c.in-Instance.names c.in-Instance.values
    c.in-Instance.left_out))
    (if_ok c.instance.result (λ own is. (ns, vs, each_name, each_value, is)) c.instance.ensures))
