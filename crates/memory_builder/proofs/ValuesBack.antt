-- Values that were laid: how long they are, and that their fields stand apart.
use Rattle.std.proofs.Common.{◌≡◌, ℕ, ◌+◌, ◌*◌, ◌%◌, ◌<◌, ◌^◌, List, [], ◌∷◌, length, map, ap, ◌∙◌, arith, inl, inr}
use Rattle.std.proofs.Common.{length-append}
use Rattle.std.specs.Prelude.{ℤ, Some, None, Ok}
use Rattle.std.proofs.lemmas.Nat.{from_le_bytes-to_le_bytes_8}
use Rattle.process_memory.specs.Memory.{Memory, word_at}
use Rattle.py_fields.specs.Places.{Place, Apart, EndBy, IsGroup, long_places, list_places, object_places}
use Rattle.py_fields.specs.Sound.{IsSound}
use Rattle.py_fields.specs.declared.layout.Layout.{Layout}
use Rattle.object_builder.specs.Objects.{bytes_of, object, write_place}
use Rattle.object_builder.specs.Objects.Value.{U64}
use Rattle.object_builder.specs.Placing.{Stands}
use Rattle.memory_builder.specs.Program.{Item, Local}
use Rattle.memory_builder.specs.Program.Item.{Number, Words}
use Rattle.memory_builder.specs.Program.Held.{Single, Items}
use Rattle.memory_builder.specs.Program as program
use Rattle.object_builder.specs.Room.{HasRoom, klass_place}
use Rattle.object_builder.specs.Texts.{text_object}
use Rattle.memory_builder.specs.Chains.{addresses_from}
use Rattle.memory_builder.specs.Values.{address_array, number_writes, laid_item, list_writes, items_place, first_item}
use Rattle.memory_builder.specs.Values.{laid_value, laid_name, laid_local}
use Rattle.object_builder.proofs.Objects.{length-inside}
use Rattle.object_builder.proofs.Placing.{length-aligned, record_stands_first, stands_left, stands_right}
use Rattle.object_builder.proofs.TextsBack.{length-text}
use Rattle.memory_builder.proofs.Chains.{length-chain, length-places, chain_even}
use Rattle.memory_builder.specs.Sizes.{held_size, item_size, list_len, local_size, name_size, number_len, rounded}
use Rattle.memory_builder.specs.declared.values.TypesAt.{TypesAt}

-- ---- arrays

pub length-address_array : (xs : List ℕ) → length (address_array xs) ≡ 8 * length xs
unfolding address_array bytes_of
length-address_array [] = omega arith
length-address_array (x ∷ xs) = omega (
  arith,
  length-append (bytes_of (U64 x)) (address_array xs),
  length-address_array xs,
)

-- the first word, and those behind it
pub word_first : {m : Memory} {a : ℕ} (x : ℕ) (xs : List ℕ) → x < 2 ^ 64 → Stands m a (address_array (x ∷ xs))
    → word_at m a ≡ Ok x
unfolding address_array word_at bytes_of
word_first x xs below s =
    let r = record_stands_first 8 (stands_left (bytes_of (U64 x)) (address_array xs) s) (omega arith) in
    rw r (ap Ok (from_le_bytes-to_le_bytes_8 x below))

pub words_rest : {m : Memory} {a : ℕ} (x : ℕ) (xs : List ℕ) → Stands m a (address_array (x ∷ xs))
    → Stands m (a + 8) (address_array xs)
unfolding address_array bytes_of
words_rest x xs s = stands_right (bytes_of (U64 x)) (address_array xs) s

flip : (p q : Place) → Apart p q → Apart q p
flip p q (inl le) = inr le
flip p q (inr le) = inl le

-- ---- lengths

module _ (l : Layout) (sound : IsSound l) where
  number_inside : (klass : ℕ) (z : ℤ) → EndBy (number_len l) (map write_place (number_writes l klass z))
  unfolding long_places object_places
  number_inside klass z = (
    omega (arith, sound.objects.long.fields.group.inside.0),
    (omega arith, (omega (arith, sound.objects.object.group.inside.0), tt)),
  )

  list_inside : (klass count items : ℕ) → EndBy (list_len l) (map write_place (list_writes l klass count items))
  unfolding list_places object_places
  list_inside klass count items =
      let list = sound.objects.list in (
        omega (arith, list.group.inside.0),
        (omega (arith, list.group.inside.1.0), (omega (arith, sound.objects.object.group.inside.0), tt)),
      )

  pub length-item : (t : TypesAt) (x : Item) → length (laid_item l t x) ≡ item_size l x
  unfolding laid_item item_size
  length-item t (Number z) = length-aligned (object (number_len l) (number_writes l t.integer z))
      ∙ ap rounded (length-inside (number_len l) _ (number_inside t.integer z))
  length-item t (Words cs) = length-aligned (text_object l (Some t.text) cs)
      ∙ ap rounded (length-text l sound (Some t.text) cs)

  pub item_even : (x : Item) → item_size l x % 16 ≡ 0
  unfolding item_size
  item_even (Number z) = omega arith
  item_even (Words cs) = omega arith

  pub length-value : (t : TypesAt) (a : ℕ) (v : program.Held) → length (laid_value l t a v) ≡ held_size l v
  unfolding laid_value held_size
  length-value t a (Single x) = length-item t x
  length-value t a (Items xs) =
      let o = object (list_len l) (list_writes l t.list (length xs) (items_place l a)) in
      let words = address_array (addresses_from (item_size l) (first_item l a xs) xs) in
      let n1 : length o ≡ list_len l = length-inside (list_len l) _
      (list_inside t.list (length xs) (items_place l a)) in
      let n2 : length words ≡ 8 * length xs = omega (
        arith,
        length-address_array (addresses_from (item_size l) (first_item l a xs) xs),
        length-places (item_size l) (λ at x. at) (first_item l a xs) xs,
      ) in
      let n3 = length-chain (item_size l) (λ at next x. laid_item l t x) (λ at next x. length-item t x)
      (first_item l a xs) xs in
      simp length-append (simp length-aligned (rw (n1, n2, n3) (omega arith)))

  pub value_even : (v : program.Held) → held_size l v % 16 ≡ 0
  unfolding held_size
  value_even (Single x) = item_even x
  value_even (Items xs) = omega (arith, chain_even (item_size l) item_even xs)

  pub local_even : (v : Local) → local_size l v % 16 ≡ 0
  unfolding local_size
  local_even v = value_even v.value

  pub name_even : (v : Local) → name_size l v % 16 ≡ 0
  unfolding name_size
  name_even v = omega arith

  pub length-local : (t : TypesAt) (a : ℕ) (v : Local) → length (laid_local l t a v) ≡ local_size l v
  unfolding laid_local local_size
  length-local t a v = length-value t a v.value

  pub length-name : (v : Local) → length (laid_name l v) ≡ name_size l v
  unfolding laid_name name_size
  length-name v = length-aligned (text_object l None v.name) ∙ ap rounded (length-text l sound None v.name)

-- ---- groups

module _ (l : Layout) (sound : IsSound l) (room : HasRoom l) where
  pub number_group : (klass : ℕ) (z : ℤ) → IsGroup (number_len l) (map write_place (number_writes l klass z))
  unfolding long_places object_places
  number_group klass z = record {
    inside = number_inside l sound klass z;
    apart = (
      (inl sound.objects.long.behind, (flip (klass_place l) (l.long.count, 8) room.number.0, tt)),
      ((flip (klass_place l) (l.long.digits, 8) room.number.1.0, tt), (tt, tt)),
    );
  }

  pub list_group : (klass count items : ℕ) → IsGroup (list_len l) (map write_place (list_writes l klass count items))
  unfolding list_places object_places
  list_group klass count items = record {
    inside = list_inside l sound klass count items;
    apart = (
      (sound.objects.list.group.apart.0.0, (flip (klass_place l) (l.list.count, 8) room.list.0, tt)),
      ((flip (klass_place l) (l.list.items, 8) room.list.1.0, tt), (tt, tt)),
    );
  }
