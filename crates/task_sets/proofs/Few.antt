-- How many attributes there are, among so many slots.
use Rattle.std.proofs.Common.{◌≡◌, ℕ, zero, suc, ◌+◌, ◌-◌, ◌≤◌, List, [], ◌++◌, length, refl, arith, length-append}
use Rattle.std.specs.Prelude.{Ok, Err}
use Rattle.process_memory.specs.Memory.{Memory, Found, ◌>>=◌}
use Rattle.py_fields.specs.declared.layout.Layout.{Layout}
use Rattle.py_builtins.specs.declared.keys.Slots.{Slots}
use Rattle.py_builtins.specs.declared.dicts.Slot.{Slot}
use Rattle.py_builtins.specs.declared.dicts.Slot.TheVariants.{Empty, Entry}
use Rattle.py_builtins.specs.Dicts.{slot_at, keys_slots}
use Rattle.std.proofs.lemmas.Bool.Decides.{nat_tests}
use Rattle.instance_dicts.specs.declared.attributes.Attribute.{Attribute}
use Rattle.instance_dicts.specs.declared.forms.DictForm.{DictForm}
use Rattle.instance_dicts.specs.declared.forms.InstanceDict.{InstanceDict}
use Rattle.instance_dicts.specs.declared.forms.InstanceDict.TheVariants.{None as NoDict, Dict, Values}
use Rattle.instance_dicts.specs.Attributes.{
  Told,
  at_most,
  attribute_of,
  attributes_from,
  dict_attributes_at,
  slots_by_form,
  told,
  told_by,
  valued,
}

abbrev found : {T : Type 0} → T → Found T
found x = Ok x

ok_same : {T : Type 0} {x y : T} → found x ≡ found y → x ≡ y
ok_same e = cc

one_valued : (name value : ℕ) → length (valued name value) ≤ 1
one_valued name zero = omega arith
one_valued name (suc v) = omega arith

one : (slot : Slot) → length (attribute_of slot) ≤ 1
one Empty = omega arith
one (Entry name value) = one_valued name value

attributes_few : (m : Memory) (s : Slots) (n number : ℕ) (xs : List Attribute) → attributes_from m s n number ≡ Ok xs
    → length xs ≤ n
unfolding attributes_from
attributes_few m s zero number xs e = let same : [] ≡ xs = ok_same e in rw (← same) (omega arith)
attributes_few m s (suc n) number xs e =
    by (attributes_few m s n (number + 1)) (slot_at m s number) (attributes_from m s n (number + 1)) refl e
  where
    by : ((ys : List Attribute) → attributes_from m s n (number + 1) ≡ Ok ys → length ys ≤ n) → (d : Found Slot)
        → (r : Found (List Attribute)) → attributes_from m s n (number + 1) ≡ r
        → (d >>= (λ slot. r >>= (λ rest. Ok (attribute_of slot ++ rest)))) ≡ Ok xs → length xs ≤ suc n
    by few (Ok slot) (Ok rest) q h =
        let same : attribute_of slot ++ rest ≡ xs = ok_same h in
        rw (← same) (omega (arith, length-append (attribute_of slot) rest, one slot, few rest q))
    by few (Ok slot) (Err f) q h = absurd (cc)
    by few (Err f) r q h = absurd (cc)

at_most_few : (count limit : ℕ) → at_most count limit ≤ limit
unfolding at_most
at_most_few count limit = grind (arith, nat_tests)

told_few : (m : Memory) (limit : ℕ) (s : Slots) (t : Told) → told_by m limit s ≡ Ok t → length t.list ≤ limit
unfolding told_by
told_few m limit s t e = by (attributes_from m s (at_most s.count limit) 0) refl e
  where
    by : (d : Found (List Attribute)) → attributes_from m s (at_most s.count limit) 0 ≡ d
        → (d >>= (λ list. Ok (told list (s.count - at_most s.count limit)))) ≡ Ok t → length t.list ≤ limit
    by (Ok list) p h =
        let same : told list (s.count - at_most s.count limit) ≡ t = ok_same h in
        rw (← same) (omega (arith, attributes_few m s (at_most s.count limit) 0 list p, at_most_few s.count limit))
    by (Err f) p h = absurd (cc)

slots_few : (m : Memory) (limit : ℕ) (d : Found Slots) (t : Told) → (d >>= told_by m limit) ≡ Ok t
    → length t.list ≤ limit
slots_few m limit (Ok s) t e = told_few m limit s t e
slots_few m limit (Err f) t e = absurd (cc)

-- an instance has no more attributes than slots that are looked at
pub dict_few : (l : Layout) (m : Memory) (form : DictForm) (dict : InstanceDict) (limit : ℕ) (t : Told)
    → dict_attributes_at l m form dict limit ≡ Ok t → length t.list ≤ limit
unfolding dict_attributes_at
dict_few l m form NoDict limit t e = let same : told [] 0 ≡ t = ok_same e in rw (← same) (omega arith)
dict_few l m form (Dict a) limit t e = slots_few m limit (slots_by_form l m form a) t e
dict_few l m form (Values keys values) limit t e = slots_few m limit (keys_slots l m keys values) t e
