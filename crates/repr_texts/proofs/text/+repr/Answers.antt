use Rattle.std.proofs.Common.{rules, ◌≡◌, ◌++◌, map, string_bytes, ℕ, length, List, [], ◌∷◌, codes, refl, sym, ap}
use Rattle.std.proofs.Common.{subst, ◌∙◌, append-nil, append_assoc, length-append, arith, min}
use Rattle.std.specs.Fmt.{signed_decimal}
use Rattle.python_literals.specs.Floats.{IsComplexText, IsFloatText}
use Rattle.python_literals.specs.Integers.{integer_text}
use Rattle.py_reprs.specs.Trees.{tree_of, trees_of}
use Rattle.py_reprs.proofs.Views.{tree-Absent, tree-Nothing, tree-Ellipsis, tree-NotImplemented, tree-Truth}
use Rattle.py_reprs.proofs.Views.{tree-Integer}
use Rattle.py_reprs.proofs.Views.{tree-SmallInteger, tree-HugeInteger, tree-Float, tree-Complex, tree-Text}
use Rattle.py_reprs.proofs.Views.{tree-Bytes, tree-Items}
use Rattle.py_reprs.proofs.Views.{tree-Pairs, tree-Class, tree-Function, tree-Builtin, tree-Module, tree-Opaque}
use Rattle.py_reprs.proofs.Views.{tree-Coroutine, tree-Instance, tree-Lost, tree-Damaged}
use Rattle.repr_texts.specs.Coroutines.{coroutine_text}
use Rattle.repr_texts.specs.Leaves.{builtin_text, bytes_text, class_text, damaged_text, function_text, huge_text}
use Rattle.repr_texts.specs.Leaves.{lost_text}
use Rattle.repr_texts.specs.Leaves.{module_text, opaque_text, suffix_of, text_text, truth_text}
use Rattle.repr_texts.specs.Writing.{AddsDict, AddsInstance, AddsItems, Adds, WriteFirst, Writes, count, full_text, is_empty_set}
use Rattle.repr_texts.specs.Writing.{attributes_of, instance_text, items_text, joined, more_text, pairs_of, pairs_text}
use Rattle.repr_texts.proofs.Parts.{both_counted, counted, dict_added, empty_is, first_more_at, first_none, full_added}
use Rattle.repr_texts.specs.Identifiers.{attribute_name}
use Rattle.repr_texts.proofs.Attributing.{attribute_added, attributes_length, instance_added}
use Rattle.repr_texts.proofs.Parts.{items_empty, items_full, pair_added, pairs_length, part_added}
use Rattle.repr_texts.proofs.text.+repr.Goals as goal

pub push_repr-returns-in_ok-push_str-in-Absent : goal.push_repr-returns-in_ok-push_str-in-Absent
unfolding Writes
push_repr-returns-in_ok-push_str-in-Absent t c =
    let shown = codes "empty" in (
      shown,
      c.in_ok-push_str-in-Absent.ensures.bytes,
      subst (λ v. Writes (tree_of v) shown) (sym c.in-Absent.is)
          (subst (λ tree. Writes tree shown) (sym tree-Absent) refl),
    )

pub push_repr-returns-in_ok-push_str-in-Nothing : goal.push_repr-returns-in_ok-push_str-in-Nothing
unfolding Writes
push_repr-returns-in_ok-push_str-in-Nothing t c =
    let shown = codes "None" in (
      shown,
      c.in_ok-push_str-in-Nothing.ensures.bytes,
      subst (λ v. Writes (tree_of v) shown) (sym c.in-Nothing.is)
          (subst (λ tree. Writes tree shown) (sym tree-Nothing) refl),
    )

pub push_repr-returns-in_ok-push_str-in-Ellipsis : goal.push_repr-returns-in_ok-push_str-in-Ellipsis
unfolding Writes
push_repr-returns-in_ok-push_str-in-Ellipsis t c =
    let shown = codes "Ellipsis" in (
      shown,
      c.in_ok-push_str-in-Ellipsis.ensures.bytes,
      subst (λ v. Writes (tree_of v) shown) (sym c.in-Ellipsis.is)
          (subst (λ tree. Writes tree shown) (sym tree-Ellipsis) refl),
    )

pub push_repr-returns-in_ok-push_str-in-NotImplemented : goal.push_repr-returns-in_ok-push_str-in-NotImplemented
unfolding Writes
push_repr-returns-in_ok-push_str-in-NotImplemented t c =
    let shown = codes "NotImplemented" in (
      shown,
      c.in_ok-push_str-in-NotImplemented.ensures.bytes,
      subst (λ v. Writes (tree_of v) shown) (sym c.in-NotImplemented.is)
          (subst (λ tree. Writes tree shown) (sym tree-NotImplemented) refl),
    )

pub push_repr-returns-in_ok-push_truth-in-Truth : goal.push_repr-returns-in_ok-push_truth-in-Truth
unfolding Writes
push_repr-returns-in_ok-push_truth-in-Truth t c =
    let shown = truth_text c.in-Truth.truth in (
      shown,
      c.in_ok-push_truth-in-Truth.ensures,
      subst (λ v. Writes (tree_of v) shown) (sym c.in-Truth.is)
          (subst (λ tree. Writes tree shown) (sym (tree-Truth c.in-Truth.truth)) refl),
    )

pub push_repr-returns-in_ok-push_digits-in-Integer : goal.push_repr-returns-in_ok-push_digits-in-Integer
unfolding Writes
push_repr-returns-in_ok-push_digits-in-Integer t c =
    let shown = integer_text c.in-Integer.is_negative c.deref.result.now ++ suffix_of c.in-Integer.form in (
      shown,
      c.in_ok-push_digits-in-Integer.ensures,
      subst (λ v. Writes (tree_of v) shown) (sym c.in-Integer.is)
          (subst (λ tree. Writes tree shown) (sym (tree-Integer c.in-Integer.form c.in-Integer.is_negative c.in-Integer.digits)) (ap (λ (ds : List ℕ). integer_text c.in-Integer.is_negative ds ++ suffix_of c.in-Integer.form) c.deref.ensures.value)),
    )

pub push_repr-returns-in_ok-write-in-SmallInteger : goal.push_repr-returns-in_ok-write-in-SmallInteger
unfolding Writes
push_repr-returns-in_ok-write-in-SmallInteger t c =
    let shown = signed_decimal c.in-SmallInteger.value in (
      shown,
      c.in_ok-write-in-SmallInteger.ensures.bytes,
      subst (λ v. Writes (tree_of v) shown) (sym c.in-SmallInteger.is)
          (subst (λ tree. Writes tree shown) (sym (tree-SmallInteger c.in-SmallInteger.value)) refl),
    )

pub push_repr-returns-in_ok-push_huge-in-HugeInteger : goal.push_repr-returns-in_ok-push_huge-in-HugeInteger
unfolding Writes
push_repr-returns-in_ok-push_huge-in-HugeInteger t c =
    let shown = huge_text c.in-HugeInteger.is_negative c.in-HugeInteger.digits in (
      shown,
      c.in_ok-push_huge-in-HugeInteger.ensures,
      subst (λ v. Writes (tree_of v) shown) (sym c.in-HugeInteger.is)
          (subst (λ tree. Writes tree shown) (sym (tree-HugeInteger c.in-HugeInteger.form c.in-HugeInteger.is_negative c.in-HugeInteger.digits c.in-HugeInteger.highest)) refl),
    )

pub push_repr-returns-in_ok-push_text-in-Text : goal.push_repr-returns-in_ok-push_text-in-Text
unfolding Writes
push_repr-returns-in_ok-push_text-in-Text t c =
    let shown = text_text c.in-Text.form c.deref-in-Text.result.now c.in-Text.length in (
      shown,
      c.in_ok-push_text-in-Text.ensures,
      subst (λ v. Writes (tree_of v) shown) (sym c.in-Text.is)
          (subst (λ tree. Writes tree shown) (sym (tree-Text c.in-Text.form c.in-Text.front c.in-Text.length)) (ap (λ (ds : List ℕ). text_text c.in-Text.form ds c.in-Text.length) c.deref-in-Text.ensures.value)),
    )

pub push_repr-returns-in_ok-push_bytes-in-Bytes : goal.push_repr-returns-in_ok-push_bytes-in-Bytes
unfolding Writes
push_repr-returns-in_ok-push_bytes-in-Bytes t c =
    let shown = bytes_text c.in-Bytes.form c.deref-in-Bytes.result.now c.in-Bytes.length in (
      shown,
      c.in_ok-push_bytes-in-Bytes.ensures,
      subst (λ v. Writes (tree_of v) shown) (sym c.in-Bytes.is)
          (subst (λ tree. Writes tree shown) (sym (tree-Bytes c.in-Bytes.form c.in-Bytes.front c.in-Bytes.length)) (ap (λ (ds : List ℕ). bytes_text c.in-Bytes.form ds c.in-Bytes.length) c.deref-in-Bytes.ensures.value)),
    )

pub push_repr-returns-in_ok-push_class-in-Class : goal.push_repr-returns-in_ok-push_class-in-Class
unfolding Writes
push_repr-returns-in_ok-push_class-in-Class t c =
    let shown = class_text c.in-Class.name in (
      shown,
      c.in_ok-push_class-in-Class.ensures,
      subst (λ v. Writes (tree_of v) shown) (sym c.in-Class.is)
          (subst (λ tree. Writes tree shown) (sym (tree-Class c.in-Class.name c.in-Class.addr)) refl),
    )

pub push_repr-returns-in_ok-push_function-in-Function : goal.push_repr-returns-in_ok-push_function-in-Function
unfolding Writes
push_repr-returns-in_ok-push_function-in-Function t c =
    let shown = function_text c.in-Function.name c.in-Function.file c.in-Function.line c.in-Function.addr in (
      shown,
      c.in_ok-push_function-in-Function.ensures,
      subst (λ v. Writes (tree_of v) shown) (sym c.in-Function.is)
          (subst (λ tree. Writes tree shown) (sym (tree-Function c.in-Function.name c.in-Function.file c.in-Function.line c.in-Function.addr)) refl),
    )

pub push_repr-returns-in_ok-push_builtin-in-Builtin : goal.push_repr-returns-in_ok-push_builtin-in-Builtin
unfolding Writes
push_repr-returns-in_ok-push_builtin-in-Builtin t c =
    let shown = builtin_text c.in-Builtin.name in (
      shown,
      c.in_ok-push_builtin-in-Builtin.ensures,
      subst (λ v. Writes (tree_of v) shown) (sym c.in-Builtin.is)
          (subst (λ tree. Writes tree shown) (sym (tree-Builtin c.in-Builtin.name c.in-Builtin.addr)) refl),
    )

pub push_repr-returns-in_ok-push_module-in-Module : goal.push_repr-returns-in_ok-push_module-in-Module
unfolding Writes
push_repr-returns-in_ok-push_module-in-Module t c =
    let shown = module_text c.in-Module.name in (
      shown,
      c.in_ok-push_module-in-Module.ensures,
      subst (λ v. Writes (tree_of v) shown) (sym c.in-Module.is)
          (subst (λ tree. Writes tree shown) (sym (tree-Module c.in-Module.name c.in-Module.addr)) refl),
    )

pub push_repr-returns-in_ok-push_coroutine-in-Coroutine : goal.push_repr-returns-in_ok-push_coroutine-in-Coroutine
unfolding Writes
push_repr-returns-in_ok-push_coroutine-in-Coroutine t c =
    let it = c.in-Coroutine in
    let shown = coroutine_text it.form it.name it.state it.addr in (
      shown,
      c.in_ok-push_coroutine-in-Coroutine.ensures,
      subst (λ v. Writes (tree_of v) shown) (sym it.is)
          (subst (λ tree. Writes tree shown) (sym (tree-Coroutine it.form it.name it.state it.addr)) refl),
    )

pub push_repr-returns-in_ok-push_opaque-in-Opaque : goal.push_repr-returns-in_ok-push_opaque-in-Opaque
unfolding Writes
push_repr-returns-in_ok-push_opaque-in-Opaque t c =
    let shown = opaque_text c.in-Opaque.class c.in-Opaque.addr in (
      shown,
      c.in_ok-push_opaque-in-Opaque.ensures,
      subst (λ v. Writes (tree_of v) shown) (sym c.in-Opaque.is)
          (subst (λ tree. Writes tree shown) (sym (tree-Opaque c.in-Opaque.class c.in-Opaque.addr)) refl),
    )

pub push_repr-returns-in_ok-push_lost-in-Lost : goal.push_repr-returns-in_ok-push_lost-in-Lost
unfolding Writes
push_repr-returns-in_ok-push_lost-in-Lost t c =
    let shown = lost_text c.in-Lost.kind c.in-Lost.addr c.in-Lost.len in (
      shown,
      c.in_ok-push_lost-in-Lost.ensures,
      subst (λ v. Writes (tree_of v) shown) (sym c.in-Lost.is)
          (subst (λ tree. Writes tree shown) (sym (tree-Lost c.in-Lost.kind c.in-Lost.addr c.in-Lost.len)) refl),
    )

pub push_repr-returns-in_ok-push_damaged-in-Damaged : goal.push_repr-returns-in_ok-push_damaged-in-Damaged
unfolding Writes
push_repr-returns-in_ok-push_damaged-in-Damaged t c =
    let shown = damaged_text c.in-Damaged.kind c.in-Damaged.addr in (
      shown,
      c.in_ok-push_damaged-in-Damaged.ensures,
      subst (λ v. Writes (tree_of v) shown) (sym c.in-Damaged.is)
          (subst (λ tree. Writes tree shown) (sym (tree-Damaged c.in-Damaged.kind c.in-Damaged.addr)) refl),
    )

pub push_repr-returns-in_ok-push_float-in-Float : goal.push_repr-returns-in_ok-push_float-in-Float
unfolding Writes
push_repr-returns-in_ok-push_float-in-Float t c =
    let added = c.in_ok-push_float-in-Float.ensures in (
      added.0,
      added.1,
      subst (λ v. Writes (tree_of v) added.0) (sym c.in-Float.is)
          (subst (λ tree. Writes tree added.0) (sym (tree-Float c.in-Float.bits)) added.2),
    )

pub push_repr-returns-in_ok-push_complex-in-Complex : goal.push_repr-returns-in_ok-push_complex-in-Complex
unfolding Writes
push_repr-returns-in_ok-push_complex-in-Complex t c =
    let added = c.in_ok-push_complex-in-Complex.ensures in (
      added.0,
      added.1,
      subst (λ v. Writes (tree_of v) added.0) (sym c.in-Complex.is)
          (subst (λ tree. Writes tree added.0) (sym (tree-Complex c.in-Complex.real c.in-Complex.imaginary)) added.2),
    )

pub push_joined-loop-number-init : goal.push_joined-loop-number-init
push_joined-loop-number-init t c = record {
  parts = [];
  each = first_none c.args.items.now;
  all = refl;
  is = sym (append-nil (string_bytes c.args.text.now));
}

pub push_joined-loop-number-preserved : goal.push_joined-loop-number-preserved
push_joined-loop-number-preserved t c =
    let inv = c.loop-number.invariant in
    let items = c.args.items.now in
    let separator = c.args.separator.now in
    let added = c.in_ok-push_repr.ensures in
    let inside = c.loop-number-test.true in
    record {
      parts = inv.parts ++ added.0 ∷ [];
      each = first_more_at items inv.parts added.0 _ c.index-items-number.result c.loop-number.number inv.each inv.all inside
          c.index-items-number.is added.2;
      all = length-append inv.parts (added.0 ∷ []) ∙ omega (arith, inv.all);
      is = part_added (string_bytes c.args.text.now) separator added.0 (string_bytes c.loop-number.text)
          (string_bytes c.push_between.new.text) (string_bytes c.push_repr.new.text) inv.parts c.loop-number.number
          inv.all inv.is c.in_ok-push_between.ensures added.1;
    }

pub push_joined-returns : goal.push_joined-returns
push_joined-returns t c =
    let inv = c.loop-number.invariant in
    let end = c.loop-number-test.false in
    let within = c.loop-number.auto.number-end in
    record {
      parts = inv.parts;
      each = inv.each;
      all = inv.all ∙ omega (arith, end, within, counted c.args.items.now);
      is = inv.is;
    }

pub push_full-returns : goal.push_full-returns
push_full-returns t c =
    let joined = c.in_ok-push_joined.ensures in
    record {
      parts = joined.parts;
      each = joined.each;
      all = joined.all;
      is = full_added c.args.form joined.parts c.args.left_out (length c.args.items.now) (string_bytes c.args.text.now)
          c.opening.result.now c.between.result.now c.between-2.result.now c.closing.result.now
          (string_bytes c.push_str.new.self) (string_bytes c.push_joined.new.text) (string_bytes c.push_more.new.text)
          (string_bytes c.push_comma.new.text) (string_bytes c.push_str-2.new.self) c.opening.ensures c.between.ensures
          c.between-2.ensures c.closing.ensures (joined.all ∙ counted c.args.items.now) c.in_ok-push_str.ensures.bytes
          joined.is c.in_ok-push_more.ensures c.in_ok-push_comma.ensures c.in_ok-push_str-2.ensures.bytes;
    }

pub push_items-returns-then-is_empty_set : goal.push_items-returns-then-is_empty_set
push_items-returns-then-is_empty_set t c =
    let empty = empty_is c.args.form (length c.args.items.now) c.args.left_out
    (sym c.is_empty_set.ensures ∙ c.if-is_empty_set.true) in
    record {
      parts = [];
      each = first_none c.args.items.now;
      all = sym (counted c.args.items.now ∙ empty.0);
      is = c.in_ok-push_empty.ensures
          ∙ ap (λ xs. string_bytes c.args.text.now ++ xs) (items_empty c.args.form c.args.left_out empty.1);
    }

pub push_items-returns : goal.push_items-returns
push_items-returns t c =
    let full = c.in_ok-push_full.ensures in
    record {
      parts = full.parts;
      each = full.each;
      all = full.all;
      is = full.is ∙ ap (λ xs. string_bytes c.args.text.now ++ xs) (items_full c.args.form full.parts c.args.left_out
          (length c.args.items.now) (full.all ∙ counted c.args.items.now)
          (sym c.is_empty_set.ensures ∙ c.if-is_empty_set.false));
    }

pub push_repr-returns-in_ok-push_items-in-Items : goal.push_repr-returns-in_ok-push_items-in-Items
unfolding Writes
push_repr-returns-in_ok-push_items-in-Items t c =
    let added = c.in_ok-push_items-in-Items.ensures in
    let shown = items_text c.in-Items.form added.parts c.in-Items.left_out in (
      shown,
      added.is,
      subst (λ v. Writes (tree_of v) shown) (sym c.in-Items.is)
          (subst (λ tree. Writes tree shown)
          (sym (tree-Items c.in-Items.form c.in-Items.items c.in-Items.left_out)) (
            added.parts,
            subst (λ xs. WriteFirst (trees_of (map tree_of xs)) added.parts) c.deref-in-Items.ensures.value added.each,
            subst (λ xs. length added.parts ≡ count (trees_of (map tree_of xs))) c.deref-in-Items.ensures.value added.all,
            refl,
          )),
    )

pub push_dict-loop-number-init : goal.push_dict-loop-number-init
push_dict-loop-number-init t c = record {
  ks = [];
  vs = [];
  each_key = first_none c.in-Pairs.keys.items;
  each_value = first_none c.in-Pairs.values.items;
  all_keys = refl;
  all_values = refl;
  is = sym (append-nil (string_bytes c.push_str.new.self));
}

pub push_dict-loop-number-preserved : goal.push_dict-loop-number-preserved
push_dict-loop-number-preserved t c =
    let inv = c.loop-number.invariant in
    let keys = c.in-Pairs.keys.items in
    let values = c.in-Pairs.values.items in
    let key = c.in_ok-push_repr.ensures in
    let value = c.in_ok-push_repr-2.ensures in
    let inside = c.loop-number-test.true in
    record {
      ks = inv.ks ++ key.0 ∷ [];
      vs = inv.vs ++ value.0 ∷ [];
      each_key = first_more_at keys inv.ks key.0 c.index.result.now c.index.result.now c.loop-number.number inv.each_key inv.all_keys
          (omega (arith, inside, c.min-shown.ensures)) c.index.ensures key.2;
      each_value = first_more_at values inv.vs value.0 c.index-in-loop-number.result.now c.index-in-loop-number.result.now c.loop-number.number inv.each_value
          inv.all_values (omega (arith, inside, c.min-shown.ensures)) c.index-in-loop-number.ensures value.2;
      all_keys = length-append inv.ks (key.0 ∷ []) ∙ omega (arith, inv.all_keys);
      all_values = length-append inv.vs (value.0 ∷ []) ∙ omega (arith, inv.all_values);
      is = pair_added (string_bytes c.push_str.new.self) key.0 value.0 (string_bytes c.loop-number.text)
          (string_bytes c.push_between.new.text) (string_bytes c.push_repr.new.text)
          (string_bytes c.push_str-in-loop-number.new.self) (string_bytes c.push_repr-in-loop-number.new.text)
          inv.ks inv.vs c.loop-number.number inv.all_keys inv.all_values inv.is c.in_ok-push_between.ensures key.1
          c.in_ok-push_str-2.ensures.bytes value.1;
    }

pub push_dict-returns : goal.push_dict-returns
unfolding Writes
push_dict-returns t c =
    let inv = c.loop-number.invariant in
    let keys = c.in-Pairs.keys.items in
    let values = c.in-Pairs.values.items in
    let shown = pairs_text (pairs_of inv.ks inv.vs) c.in-Pairs.left_out in
    let end = c.loop-number-test.false in
    let within = c.loop-number.auto.number-end in
    let key_count : c.len.result ≡ length keys = omega (arith, c.len.ensures) in
    let value_count : c.len-2.result ≡ length values = omega (arith, c.len-2.ensures) in
    let shown_is = ap (λ n. min n c.len-2.result) key_count ∙ ap (λ n. min (length keys) n) value_count
    ∙ both_counted keys values in
    subst (λ v. AddsDict (tree_of v) (string_bytes c.args.text.now) (string_bytes c.push_str-2.new.self)) (sym c.in-Pairs.is)
    (subst (λ tree. AddsDict tree (string_bytes c.args.text.now) (string_bytes c.push_str-2.new.self))
    (sym (tree-Pairs c.in-Pairs.keys c.in-Pairs.values c.in-Pairs.left_out)) (
      shown,
      dict_added (string_bytes c.args.text.now) (string_bytes c.push_str.new.self) (string_bytes c.loop-number.text)
          (string_bytes c.push_more.new.text) (string_bytes c.push_str-2.new.self) inv.ks inv.vs c.min-shown.result
          c.in-Pairs.left_out c.in_ok-push_str.ensures.bytes inv.is c.in_ok-push_more.ensures c.in_ok-push_str-3.ensures.bytes
          (pairs_length inv.ks inv.vs c.min-shown.result (inv.all_keys ∙ omega (arith, end, within))
          (inv.all_values ∙ omega (arith, end, within))),
      (
        inv.ks,
        inv.vs,
        inv.each_key,
        inv.each_value,
        inv.all_keys ∙ omega (arith, end, within) ∙ c.min-shown.ensures ∙ shown_is,
        inv.all_values ∙ omega (arith, end, within) ∙ c.min-shown.ensures ∙ shown_is,
        refl,
      ),
    ))

pub push_instance-loop-number-init : goal.push_instance-loop-number-init
push_instance-loop-number-init t c = record {
  ns = [];
  vs = [];
  each_name = first_none c.in-Instance.names.items;
  each_value = first_none c.in-Instance.values.items;
  all_names = refl;
  all_values = refl;
  is = sym (append-nil (string_bytes c.push_instance_opening.new.text));
}

pub push_instance-loop-number-preserved : goal.push_instance-loop-number-preserved
push_instance-loop-number-preserved t c =
    let inv = c.loop-number.invariant in
    let names = c.in-Instance.names.items in
    let values = c.in-Instance.values.items in
    let name = c.in_ok-push_repr.ensures in
    let value = c.in_ok-push_repr-2.ensures in
    let inside = c.loop-number-test.true in
    let named = c.as_str.ensures.value ∙ name.1 ∙ ap (λ xs. xs ++ name.0) c.new-name.ensures.bytes in
    record {
      ns = inv.ns ++ name.0 ∷ [];
      vs = inv.vs ++ value.0 ∷ [];
      each_name = first_more_at names inv.ns name.0 c.index.result.now c.index.result.now c.loop-number.number
          inv.each_name inv.all_names (omega (arith, inside, c.min-shown.ensures)) c.index.ensures name.2;
      each_value = first_more_at values inv.vs value.0 c.index-in-loop-number.result.now
          c.index-in-loop-number.result.now c.loop-number.number inv.each_value
          inv.all_values (omega (arith, inside, c.min-shown.ensures)) c.index-in-loop-number.ensures value.2;
      all_names = length-append inv.ns (name.0 ∷ []) ∙ omega (arith, inv.all_names);
      all_values = length-append inv.vs (value.0 ∷ []) ∙ omega (arith, inv.all_values);
      is = attribute_added (string_bytes c.push_instance_opening.new.text) name.0 value.0 (string_bytes c.loop-number.text)
          (string_bytes c.push_between.new.text) (string_bytes c.push_attribute_name.new.text)
          (string_bytes c.push_str.new.self) (string_bytes c.push_repr-in-loop-number.new.text)
          inv.ns inv.vs c.loop-number.number inv.all_names inv.all_values inv.is c.in_ok-push_between.ensures
          (c.in_ok-push_attribute_name.ensures
          ∙ ap (λ xs. string_bytes c.push_between.new.text ++ attribute_name xs) named)
          c.in_ok-push_str.ensures.bytes value.1;
    }

pub push_instance-returns : goal.push_instance-returns
unfolding Writes
push_instance-returns t c =
    let inv = c.loop-number.invariant in
    let names = c.in-Instance.names.items in
    let values = c.in-Instance.values.items in
    let class = c.in-Instance.class in
    let addr = c.in-Instance.addr in
    let shown = instance_text class addr (attributes_of inv.ns inv.vs) c.in-Instance.left_out in
    let end = c.loop-number-test.false in
    let within = c.loop-number.auto.number-end in
    let name_count : c.len.result ≡ length names = omega (arith, c.len.ensures) in
    let value_count : c.len-2.result ≡ length values = omega (arith, c.len-2.ensures) in
    let shown_is = ap (λ n. min n c.len-2.result) name_count ∙ ap (λ n. min (length names) n) value_count
    ∙ both_counted names values in
    subst (λ v. AddsInstance (tree_of v) (string_bytes c.args.text.now) (string_bytes c.push_str-2.new.self))
    (sym c.in-Instance.is)
    (subst (λ tree. AddsInstance tree (string_bytes c.args.text.now) (string_bytes c.push_str-2.new.self))
    (sym (tree-Instance class addr c.in-Instance.names c.in-Instance.values c.in-Instance.left_out)) (
      shown,
      instance_added class addr (string_bytes c.args.text.now) (string_bytes c.push_instance_opening.new.text)
          (string_bytes c.loop-number.text) (string_bytes c.push_more.new.text) (string_bytes c.push_str-2.new.self)
          inv.ns inv.vs c.min-shown.result c.in-Instance.left_out c.in_ok-push_instance_opening.ensures inv.is
          c.in_ok-push_more.ensures c.in_ok-push_str-2.ensures.bytes
          (attributes_length inv.ns inv.vs c.min-shown.result (inv.all_names ∙ omega (arith, end, within))
          (inv.all_values ∙ omega (arith, end, within))),
      (
        inv.ns,
        inv.vs,
        inv.each_name,
        inv.each_value,
        inv.all_names ∙ omega (arith, end, within) ∙ c.min-shown.ensures ∙ shown_is,
        inv.all_values ∙ omega (arith, end, within) ∙ c.min-shown.ensures ∙ shown_is,
        refl,
      ),
    ))
