-- The lines and values of some numbers, one after another.
use Rattle.std.proofs.Common.{◌≡◌, ℕ, ◌+◌, ◌<◌, List, ◌++◌, length, drop, get_or, map, refl, ap, arith}
use Rattle.std.specs.Prelude.{Bool}
use Rattle.serde_json.specs.Data.{Data}
use Rattle.serde_json.specs.View.{view}
use Rattle.serde_json.specs.declared.value.Value.{Value}
use Rattle.py_selftest.specs.declared.checking.KeyTold.{KeyTold}
use Rattle.py_selftest.specs.declared.tree.Listed.{Listed}
use Rattle.py_selftest.specs.Checking.{key_shown}
use Rattle.py_selftest.specs.Text.{count_told, differ_text, differing_text, is_told}
use Rattle.py_selftest.specs.Questions.{one_if}
use Rattle.py_selftest.specs.Trees.{listed_from, listed_of}
use Rattle.py_selftest.proofs.Rest.{next, part_more, value_more}

module _ (keys : List KeyTold) (i : ℕ) where
  pub text_more : (none : KeyTold) (before after total : List ℕ) → i < length keys
      → after ≡ before ++ differ_text (key_shown (get_or keys i none))
      → before ++ differing_text (map key_shown (drop i keys)) ≡ total
      → after ++ differing_text (map key_shown (drop (i + 1) keys)) ≡ total
  unfolding differing_text
  text_more none before after total some pushed inv =
      part_more (λ xs. differing_text (map key_shown xs)) (differ_text (key_shown (get_or keys i none)))
      before after total keys i
      (ap (λ xs. differing_text (map key_shown xs)) (next keys i (get_or keys i none) none some refl)) inv pushed

  pub list_more : (none : KeyTold) (listed : Listed) (before after : List Value) (total : List Data) → i < length keys
      → map view after ≡ map view before ++ listed_of listed (key_shown (get_or keys i none))
      → map view before ++ listed_from listed (map key_shown (drop i keys)) ≡ total
      → map view after ++ listed_from listed (map key_shown (drop (i + 1) keys)) ≡ total
  unfolding listed_from
  list_more none listed before after total some pushed inv =
      value_more view before after (listed_of listed (key_shown (get_or keys i none))) _ _ total
      (ap (λ xs. listed_from listed (map key_shown xs)) (next keys i (get_or keys i none) none some refl)) inv pushed

  pub count_more : (none : KeyTold) (told : Bool) (count one total : ℕ) → i < length keys
      → one ≡ one_if (is_told told (key_shown (get_or keys i none)))
      → count + count_told told (map key_shown (drop i keys)) ≡ total
      → count + one + count_told told (map key_shown (drop (i + 1) keys)) ≡ total
  unfolding count_told
  count_more none told count one total some is inv =
      let step = ap (λ xs. count_told told (map key_shown xs)) (next keys i (get_or keys i none) none some refl) in
      omega (arith, step, is, inv)
