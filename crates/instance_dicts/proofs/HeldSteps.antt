-- The steps to where an instance's dict or its values stand.
use Rattle.std.proofs.Common.{◌≡◌, ◌≢◌, ℕ, zero, suc, ◌+◌, ◌-◌, ◌*◌, ◌%◌, ◌^◌, ◌<◌, ◌≤◌, ltb, true, false, cond, nat_eq}
use Rattle.std.proofs.Common.{refl, ap, ◌∙◌, arith}
use Rattle.std.specs.Prelude.{not, Ok}
use Rattle.std.specs.Int.{bit_at}
use Rattle.std.specs.Int.Bits.{bit_and}
use Rattle.std.proofs.lemmas.Nat.Bits.{and_pow, bit_at-lt}
use Rattle.std.proofs.lemmas.Bool.Decides.{nat_tests}
use Rattle.process_memory.specs.Memory.{Memory}
use Rattle.py_builtins.specs.Texts.{bit_is_set}
use Rattle.instance_dicts.specs.declared.forms.InstanceFields.{InstanceFields}
use Rattle.instance_dicts.specs.declared.forms.InstanceDict.TheVariants.{None, Dict}
use Rattle.instance_dicts.specs.Forms.{as_address, dict_or_none, values_with}
use Rattle.instance_dicts.specs.Managed.{embedded_by, embedded_values_at, held_apart, managed_dict_at, one_word}
use Rattle.instance_dicts.specs.Managed.{valid_byte, valid_values, values_if}
use Rattle.py_builtins.specs.declared.types.ObjectType.{ObjectType}
use Rattle.instance_dicts.specs.declared.forms.DictForm.{DictForm}
use Rattle.instance_dicts.specs.Attributes.{at_most, behind_header}
use Rattle.instance_dicts.specs.Instances.{dict_of_class, is_managed}
use Rattle.instance_dicts.specs.Plain.{behind_at, from_end_at, magnitude, named_dict_at, plain_dict_at}

module _ (f : InstanceFields) (m : Memory) where
  module _ (class : ℕ) where
    pub apart_none : (values dict : ℕ) → values ≡ 0 → held_apart f m class values dict ≡ Ok (dict_or_none dict)
    unfolding held_apart
    apart_none values dict e = rw e refl

    pub apart_some : (values dict : ℕ) → values ≢ 0 → held_apart f m class values dict ≡ values_with f m class values
    unfolding held_apart
    apart_some zero dict some = absurd (some refl)
    apart_some (suc values) dict some = refl

    pub word_odd : (word : ℕ) → word % 2 ≡ 1 → one_word f m class word ≡ values_with f m class (word + 1)
    unfolding one_word
    word_odd word e =
        let is : nat_eq (word % 2) 1 ≡ true = grind (arith, nat_tests) in
        ap (λ b. cond b (values_with f m class (word + 1)) (Ok (dict_or_none word))) is

    pub word_even : (word : ℕ) → word % 2 ≢ 1 → one_word f m class word ≡ Ok (dict_or_none word)
    unfolding one_word
    word_even word e =
        let is : nat_eq (word % 2) 1 ≡ false = grind (arith, nat_tests) in
        ap (λ b. cond b (values_with f m class (word + 1)) (Ok (dict_or_none word))) is

    byte_none : (place byte : ℕ) → byte ≡ 0 → values_if f m class place byte ≡ Ok None
    unfolding values_if
    byte_none place byte e = rw e refl

    byte_some : (place byte : ℕ) → byte ≢ 0 → values_if f m class place byte ≡ values_with f m class (place + 8)
    unfolding values_if
    byte_some place zero some = absurd (some refl)
    byte_some place (suc byte) some = refl

    pub valid_none : (place header : ℕ) → valid_byte header ≡ 0 → valid_values f m class place header ≡ Ok None
    unfolding valid_values
    valid_none place header e = byte_none place (valid_byte header) e

    pub valid_some : (place header : ℕ) → valid_byte header ≢ 0
        → valid_values f m class place header ≡ values_with f m class (place + 8)
    unfolding valid_values
    valid_some place header some = byte_some place (valid_byte header) some

  module _ (a class flags : ℕ) where
    pub embedded_in : (dict : ℕ) → dict ≡ 0 → bit_and flags 4 ≢ 0
        → embedded_by f m a class flags dict ≡ embedded_values_at f m a class
    unfolding embedded_by
    embedded_in dict none some =
        let bit : bit_at flags 2 ≡ 1 = omega (arith, and_pow flags 2, bit_at-lt flags 2, some) in
        let is : nat_eq (bit_at flags 2) 1 ≡ true = grind (arith, nat_tests) in
        rw none (ap (λ b. cond b (embedded_values_at f m a class) (Ok None)) is)

    pub embedded_dict : (dict : ℕ) → dict ≢ 0 → embedded_by f m a class flags dict ≡ Ok (Dict dict)
    unfolding embedded_by
    embedded_dict zero some = absurd (some refl)
    embedded_dict (suc dict) some = refl

    pub embedded_none : (dict : ℕ) → dict ≡ 0 → bit_and flags 4 ≡ 0 → embedded_by f m a class flags dict ≡ Ok None
    unfolding embedded_by
    embedded_none dict e none =
        let bit : bit_at flags 2 ≡ 0 = omega (arith, and_pow flags 2, none) in
        let is : nat_eq (bit_at flags 2) 1 ≡ false = grind (arith, nat_tests) in
        rw e (ap (λ b. cond b (embedded_values_at f m a class) (Ok None)) is)

  module _ (a class : ℕ) where
    pub plain_none : (distance : ℕ) → distance ≡ 0 → plain_dict_at f m a class distance ≡ Ok None
    unfolding plain_dict_at
    plain_none distance e = rw e refl

    plain_some : (distance : ℕ) → distance ≢ 0 → plain_dict_at f m a class distance ≡ behind_at f m a class distance
    unfolding plain_dict_at
    plain_some zero some = absurd (some refl)
    plain_some (suc distance) some = refl

    pub plain_behind : (distance : ℕ) → distance ≢ 0 → distance < 2 ^ 63
        → plain_dict_at f m a class distance ≡ named_dict_at m (a + distance)
    unfolding behind_at
    plain_behind distance some lt =
        let is : ltb distance (2 ^ 63) ≡ true = grind (arith, nat_tests) in
        plain_some distance some ∙ rw is refl

    pub plain_end : (distance back : ℕ) → 2 ^ 63 ≤ distance → back ≡ 2 ^ 64 - distance
        → plain_dict_at f m a class distance ≡ from_end_at f m a class back
    unfolding behind_at
    plain_end distance back le is =
        let on : ltb distance (2 ^ 63) ≡ false = grind (arith, nat_tests) in
        plain_some distance (omega arith) ∙ rw (on, is) refl

pub magnitude_small : (count : ℕ) → count < 2 ^ 63 → magnitude count ≡ count
unfolding magnitude
magnitude_small count lt = let is : ltb count (2 ^ 63) ≡ true = grind (arith, nat_tests) in rw is refl

pub magnitude_back : (count : ℕ) → 2 ^ 63 ≤ count → magnitude count ≡ 2 ^ 64 - count
unfolding magnitude
magnitude_back count le = let is : ltb count (2 ^ 63) ≡ false = grind (arith, nat_tests) in rw is refl

pub header_none : (values : ℕ) → values ≡ 0 → behind_header values ≡ Ok 0
unfolding behind_header
header_none values e = rw e refl

pub header_some : (values : ℕ) → values ≢ 0 → behind_header values ≡ as_address (values + 8)
unfolding behind_header
header_some zero some = absurd (some refl)
header_some (suc values) some = refl

by_bit : (flags : ℕ) (b : ℕ) → bit_and flags (2 ^ 4) ≡ 2 ^ 4 * b → b < 2
    → not (nat_eq (bit_and flags (2 ^ 4)) 0) ≡ nat_eq b 1
by_bit flags b e lt = grind (arith, nat_tests)

pub flag_set : (flags : ℕ) → not (nat_eq (bit_and flags 16) 0) ≡ bit_is_set flags 4
flag_set flags = by_bit flags (bit_at flags 4) (omega (arith, and_pow flags 4)) (bit_at-lt flags 4)

module _ (f : InstanceFields) (m : Memory) (form : DictForm) (a : ℕ) (class : ObjectType) where
  pub class_managed : is_managed form class.flags ≡ true
      → dict_of_class f m form a class ≡ managed_dict_at f m form a class.at class.flags
  unfolding dict_of_class
  class_managed is = rw is refl

  pub class_plain : is_managed form class.flags ≡ false
      → dict_of_class f m form a class ≡ plain_dict_at f m a class.at class.dict_offset
  unfolding dict_of_class
  class_plain is = rw is refl

pub at_most_all : (count limit : ℕ) → count < limit → at_most count limit ≡ count
unfolding at_most
at_most_all count limit lt = let is : ltb count limit ≡ true = grind (arith, nat_tests) in rw is refl

pub at_most_limit : (count limit : ℕ) → limit ≤ count → at_most count limit ≡ limit
unfolding at_most
at_most_limit count limit le = let is : ltb count limit ≡ false = grind (arith, nat_tests) in rw is refl
