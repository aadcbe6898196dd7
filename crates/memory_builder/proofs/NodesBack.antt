-- What the values that were laid are.
use Rattle.std.proofs.Common.{◌≡◌, ℕ, zero, suc, ◌+◌, ◌-◌, ◌*◌, ◌<◌, ◌≤◌, ◌^◌, ltb, eqb, Bool, true, false, cond, List}
use Rattle.std.proofs.Common.{[], ◌∷◌, ◌++◌, length, map, take, drop, refl, sym, ap, subst, ◌∙◌, arith, inl, inr}
use Rattle.std.specs.Prelude.{if◌then◌else◌, ℤ, pos, negsuc, unsigned_abs, Some, Ok, slice_get, codes, encode_utf8_all}
use Rattle.std.specs.Str.{IsAscii, is_utf8}
use Rattle.std.proofs.lemmas.Str.{is_utf8-from_IsUtf8, IsUtf8-from_ascii}
use Rattle.std.proofs.lemmas.Str.Ascii.{IsAscii-nil, IsAscii-cons}
use Rattle.std.specs.Int.{w32, w64, to_le_bytes, from_le_bytes}
use Rattle.std.proofs.lemmas.Bool.{lt-ltb, le-ltb, cases_lt}
use Rattle.std.proofs.lemmas.Bool.Decides.{nat_tests}
use Rattle.std.proofs.lemmas.List.{get_or-take, length-take-le, same_lists, take_all}
use Rattle.elf64_core.specs.Fields.{u64_in, u32_in}
use Rattle.process_memory.specs.Memory.{Memory, record_at, word_at}
use Rattle.py_fields.specs.Places.{IsGroup, klass_places, list_places, long_places, object_places}
use Rattle.py_fields.specs.Sound.{IsSound}
use Rattle.py_fields.specs.declared.layout.Integers.{Integers}
use Rattle.py_fields.specs.declared.layout.Integers.TheVariants.{Signed, Tagged}
use Rattle.py_fields.specs.declared.layout.Layout.{Layout}
use Rattle.py_builtins.specs.Integers as read
use Rattle.py_builtins.specs.Integers.{long_at, long_by, magnitude_at, signed, two_big_digits}
use Rattle.py_builtins.specs.Items.{item_at, item_count, items_at}
use Rattle.py_builtins.specs.Types.{type_at}
use Rattle.py_builtins.specs.declared.items.Sequence.TheVariants.{List as ListItems}
use Rattle.py_objects.specs.Kinds.{kind_of}
use Rattle.py_objects.specs.Nodes.{child_at, class_at, items_node, kind_node, long_node, node_at, text_node}
use Rattle.py_objects.specs.ShownTexts.{before_nul, number_text, text_or}
use Rattle.py_objects.specs.Shows.Node.{Whole, Quoted}
use Rattle.py_objects.specs.Shows.Child.{Item as ItemChild}
use Rattle.py_objects.specs.Nodes.PartsPlace.{ItemsAt}
use Rattle.memory_builder.proofs.ProgramBack.{length-type_name}
use Rattle.object_builder.specs.Objects.{bytes_of, object, part, put_at, write_place, aligned}
use Rattle.object_builder.specs.Objects.Value.{U64}
use Rattle.object_builder.specs.Placing.{Stands}
use Rattle.memory_builder.specs.Program.{Item, Held}
use Rattle.memory_builder.specs.Program.Item.{Number, Words}
use Rattle.memory_builder.specs.Program.Held.{Single, Items}
use Rattle.object_builder.specs.Room.{HasRoom}
use Rattle.object_builder.specs.Texts.{text_object, text_writes, kind_for}
use Rattle.memory_builder.specs.Validity.{IsBriefText, IsValidHeld, IsValidItem}
use Rattle.memory_builder.specs.Sizes.{item_size, list_len, number_len, rounded, text_len}
use Rattle.memory_builder.specs.declared.values.TypesAt.{TypesAt}
use Rattle.memory_builder.specs.Chains.{laid_chain, addresses_from}
use Rattle.memory_builder.specs.Values.{address_array, count_for, digit_count, digits_word, first_item, is_below}
use Rattle.memory_builder.specs.Values.{items_place, laid_all, laid_item, laid_value, list_writes, number_writes}
use Rattle.memory_builder.specs.Laid.{laid_type, type_name, type_writes}
use Rattle.object_builder.proofs.Objects.{get_or-part, length-object, length-part, part-object, part-take, u64_read}
use Rattle.object_builder.proofs.Placing.{record_stands_first, stands_last, stands_left, stands_object, stands_rest}
use Rattle.object_builder.proofs.Placing.{stands_right, word_stands}
use Rattle.object_builder.proofs.TextsBack.{text_back, text_group}
use Rattle.memory_builder.proofs.ValuesBack.{length-address_array, length-item, list_group, number_group, word_first}
use Rattle.memory_builder.proofs.ValuesBack.{words_rest}
use Rattle.std.specs.List.{AllByRecursion}
use Rattle.memory_builder.proofs.Chains.{length-places}
use Rattle.memory_builder.proofs.SameValues.{IsItemAt, IsValueAt}

add_sub : (a n : ℕ) → a + n - a ≡ n
add_sub a n = omega arith

-- the front of a part
part-shorter : (at n k : ℕ) (bytes : List ℕ) → n ≤ k → at + k ≤ length bytes
    → part at n bytes ≡ take n (part at k bytes)
part-shorter at n k bytes le within =
    let len : length (part at k bytes) ≡ k = length-part at k bytes within in
    same_lists _ _ (length-part at n bytes (omega arith) ∙ sym (length-take-le n (part at k bytes) (omega arith)))
    (λ i d lt. let below : i < n = omega (arith, length-part at n bytes (omega arith)) in
    get_or-part at n bytes i d below ∙ sym (get_or-take n (part at k bytes) i d below
    ∙ get_or-part at k bytes i d (omega arith)))

ascii_utf8 : (bs : List ℕ) → IsAscii bs → is_utf8 bs ≡ true
ascii_utf8 bs h = is_utf8-from_IsUtf8 bs (IsUtf8-from_ascii bs h)

-- ---- types

pub record IsTypeAt (l : Layout) (m : Memory) (t flags : ℕ) (name : List ℕ) : Type 0 where
  pub below : t < 2 ^ 64
  pub klass : List ℕ
  pub read : record_at m t l.klass.size ≡ Ok klass
  pub flags_is : u64_in klass l.klass.flags ≡ flags
  pub chars : record_at m (u64_in klass l.klass.name) 128 ≡ Ok (type_name name)

module _ (l : Layout) (sound : IsSound l) (m : Memory) where
  pub type_back : (t flags : ℕ) (name : List ℕ) → flags < 2 ^ 64 → length name ≤ 128
      → Stands m t (laid_type l t flags name) → IsTypeAt l m t flags name
  unfolding laid_type klass_places
  type_back t flags name fits short s =
      let at = t + rounded l.klass.size in
      let ws = type_writes l at flags in
      let g : IsGroup l.klass.size (map write_place ws) = sound.objects.klass.group in
      let o = object l.klass.size ws in
      let n = length-object l.klass.size ws g in
      let names : Stands m at (type_name name) = stands_last (type_name name)
      (stands_rest o (aligned (type_name name)) l.klass.size n s) in
      let long : length (type_name name) ≡ 128 = length-type_name name short in
      let inside = g.inside in
      let w : u64_in (take l.klass.size o) l.klass.name ≡ at =
      u64_read l.klass.size ws g l.klass.size (omega arith) 0 l.klass.name at refl (omega (
        arith,
        names.ends,
      )) inside.0 in
      let read : record_at m at 128 ≡ Ok (type_name name) = record_stands_first 128 names (omega arith)
      ∙ ap Ok (take_all 128 (type_name name) (omega arith)) in
      record {
        below = omega (arith, s.ends);
        klass = take l.klass.size o;
        read = record_stands_first l.klass.size (stands_object o (aligned (type_name name)) s) (omega arith);
        flags_is = u64_read l.klass.size ws g l.klass.size (omega arith) 1 l.klass.flags flags refl fits inside.1.0;
        chars = rw w read;
      }

  -- the type that an object names
  class_back : (a t flags : ℕ) (name object : List ℕ) → IsTypeAt l m t flags name → before_nul (type_name name) ≡ name
      → is_utf8 name ≡ true
      → record_at m a l.object.size ≡ Ok object → u64_in object l.object.klass ≡ t → class_at l m a ≡ Ok (flags, name)
  unfolding class_at type_at text_or
  class_back a t flags name object h front utf8 read named =
      rw (read, named, h.read, h.chars, front, utf8, h.flags_is) refl

  int_front : before_nul (type_name (codes "int")) ≡ codes "int"
  unfolding before_nul object put_at bytes_of
  int_front = refl

  str_front : before_nul (type_name (codes "str")) ≡ codes "str"
  unfolding before_nul object put_at bytes_of
  str_front = refl

  list_front : before_nul (type_name (codes "list")) ≡ codes "list"
  unfolding before_nul object put_at bytes_of
  list_front = refl

  int_utf8 : is_utf8 (codes "int") ≡ true
  int_utf8 = ascii_utf8 (codes "int") (IsAscii-cons 105 (110 ∷ 116
      ∷ []) (omega arith) (IsAscii-cons 110 (116 ∷ []) (omega arith) (IsAscii-cons 116 ([]) (omega arith) IsAscii-nil)))

  str_utf8 : is_utf8 (codes "str") ≡ true
  str_utf8 = ascii_utf8 (codes "str") (IsAscii-cons 115 (116 ∷ 114
      ∷ []) (omega arith) (IsAscii-cons 116 (114 ∷ []) (omega arith) (IsAscii-cons 114 ([]) (omega arith) IsAscii-nil)))

  list_utf8 : is_utf8 (codes "list") ≡ true
  list_utf8 = ascii_utf8 (codes "list") (IsAscii-cons 108 (105 ∷ 115 ∷ 116
      ∷ []) (omega arith) (IsAscii-cons 105 (115 ∷ 116 ∷ []) (omega arith)
      (IsAscii-cons 115 (116 ∷ []) (omega arith) (IsAscii-cons 116 ([]) (omega arith) IsAscii-nil))))

  int_kind : (a : ℕ) (name : List ℕ) → kind_node l m a name (kind_of l.bytes_text (2 ^ 24) name) ≡ long_node l m a name
  unfolding kind_of
  int_kind a name = refl

  str_kind : (a : ℕ) (name : List ℕ) → kind_node l m a name (kind_of l.bytes_text (2 ^ 28) name) ≡ text_node l m a
  unfolding kind_of
  str_kind a name = refl

  list_kind : (a : ℕ) (name : List ℕ) (b : Bool) → kind_node l m a name (kind_of b (2 ^ 25) name)
      ≡ items_node l m ListItems a
  unfolding kind_of
  list_kind a name true = refl
  list_kind a name false = refl

-- ---- digits

sign_of : ℤ → Bool
sign_of z = is_below z

low_half : (n : ℕ) → n < 2 ^ 32 → from_le_bytes w32 (take 4 (to_le_bytes w64 n)) ≡ n
low_half n h = omega arith

two_back : (n : ℕ) → n < 2 ^ 60 → two_big_digits (digits_word n) ≡ n
two_back n h = omega arith

word_small : (n : ℕ) → n < 2 ^ 60 → digits_word n < 2 ^ 64
word_small n h = omega arith

digits_most : (n : ℕ) → digit_count n ≤ 2
digits_most n = elim (eqb n 0) as (λ t. cond t 0 (cond (ltb n (2 ^ 30)) 1 2) ≤ 2) [
  | true ↦ omega arith
  | false ↦
      elim (ltb n (2 ^ 30)) as (λ t. cond t 1 2 ≤ 2) [ true ↦ omega arith | false ↦ omega arith ]
]

not_zero : (n : ℕ) → eqb (suc n) 0 ≡ false
not_zero n = grind (arith, nat_tests)

digits_some : (n : ℕ) → 1 ≤ digit_count (suc n)
digits_some n = rw (not_zero n) (elim (ltb (suc n) (2 ^ 30)) as (λ t. 1 ≤ cond t 1 2) [
  | true ↦ omega arith
  | false ↦
      omega arith
])

stated : (i : Integers) (d : ℕ) (below : Bool) → ℕ
stated Signed d below = if below then 2 ^ 64 - d else d
stated Tagged d below = d * 8 + (if below then 2 else 0)

above_read : (i : Integers) (d : ℕ) → d ≤ 2 → read.digits_of i (stated i d false) ≡ record {
  count = d;
  negative =
      false;
}
unfolding stated
above_read Signed zero le = refl
above_read Signed (suc zero) le = refl
above_read Signed (suc (suc zero)) le = refl
above_read Signed (suc (suc (suc d))) le = absurd (omega arith)
above_read Tagged zero le = refl
above_read Tagged (suc zero) le = refl
above_read Tagged (suc (suc zero)) le = refl
above_read Tagged (suc (suc (suc d))) le = absurd (omega arith)

below_read : (i : Integers) (d : ℕ) → 1 ≤ d → d ≤ 2 → read.digits_of i (stated i d true) ≡ record {
  count = d;
  negative = true;
}
unfolding stated
below_read i zero some le = absurd (omega arith)
below_read Signed (suc zero) some le = refl
below_read Signed (suc (suc zero)) some le = refl
below_read Signed (suc (suc (suc d))) some le = absurd (omega arith)
below_read Tagged (suc zero) some le = refl
below_read Tagged (suc (suc zero)) some le = refl
below_read Tagged (suc (suc (suc d))) some le = absurd (omega arith)

digits_read : (i : Integers) (z : ℤ) → read.digits_of i (count_for i z) ≡ record {
  count = digit_count (unsigned_abs z);
  negative = is_below z;
}
unfolding stated
digits_read Signed (pos n) = above_read Signed (digit_count n) (digits_most n)
digits_read Tagged (pos n) = above_read Tagged (digit_count n) (digits_most n)
digits_read Signed (negsuc n) = below_read Signed (digit_count (suc n)) (digits_some n) (digits_most (suc n))
digits_read Tagged (negsuc n) = below_read Tagged (digit_count (suc n)) (digits_some n) (digits_most (suc n))

count_small : (i : Integers) (z : ℤ) → count_for i z < 2 ^ 64
count_small Signed (pos n) = omega (arith, digits_most n)
count_small Tagged (pos n) = omega (arith, digits_most n)
count_small Signed (negsuc n) = omega (arith, digits_some n)
count_small Tagged (negsuc n) = omega (arith, digits_most (suc n))

signed_back : (z : ℤ) → signed (is_below z) (unsigned_abs z) ≡ z
signed_back (pos n) = refl
signed_back (negsuc n) = refl

module _ (l : Layout) (sound : IsSound l) (room : HasRoom l) (m : Memory) where
  magnitude_back : (a n : ℕ) (object : List ℕ) → (n < 2 ^ 30 → u32_in object l.long.digits ≡ n)
      → word_at m (a + l.long.digits) ≡ Ok (digits_word n) → n < 2 ^ 60
      → magnitude_at l m a object (digit_count n) ≡ Ok n
  unfolding magnitude_at
  magnitude_back a zero object low word small = refl
  magnitude_back a (suc n) object low word small = elim (cases_lt (suc n) (2 ^ 30)) [
    | inl lt ↦ let one : ltb (suc n) (2 ^ 30) ≡ true = lt-ltb (suc n) (2 ^ 30) lt in rw (not_zero n, one, low lt) refl
    | inr le ↦ let two : ltb (suc n) (2 ^ 30) ≡ false = grind (arith, nat_tests) in
        rw (not_zero n, two, word, two_back (suc n) small) refl
  ]

  number_back : (a : ℕ) (t : TypesAt) (z : ℤ) → unsigned_abs z < 2 ^ 60
      → Stands m a (object (number_len l) (number_writes l t.integer z)) → long_at l m a ≡ Ok (z, false)
  unfolding long_at long_by bytes_of u32_in long_places
  number_back a t z small s =
      let n = unsigned_abs z in
      let ws = number_writes l t.integer z in
      let g = number_group l sound room t.integer z in
      let o = object (number_len l) ws in
      let len = length-object (number_len l) ws g in
      let long = sound.objects.long.fields.group.inside in
      let object = take l.long.size o in
      let r : record_at m a l.long.size ≡ Ok object = record_stands_first l.long.size s (omega (arith, len)) in
      let c : u64_in object l.long.count ≡ count_for l.integers z =
      u64_read (number_len l) ws g l.long.size (omega arith) 0 l.long.count (count_for l.integers z) refl
      (count_small l.integers z) long.0 in
      let w : word_at m (a + l.long.digits) ≡ Ok (digits_word n) =
      word_stands (number_len l) ws 1 l.long.digits (digits_word n) g refl (word_small n small) s in
      let low : n < 2 ^ 30 → u32_in object l.long.digits ≡ n = λ lt.
      let same : digits_word n ≡ n = omega arith in
      ap (λ k. from_le_bytes w32 (take k (drop l.long.digits object))) (add_sub l.long.digits 4)
      ∙ ap (from_le_bytes w32) (part-take l.long.size l.long.digits 4 o long.1.0 (omega (arith, len))
      ∙ part-shorter l.long.digits 4 8 o (omega arith) (omega (arith, len))
      ∙ ap (take 4) (part-object (number_len l) ws 1 (record {
        at = l.long.digits;
        value =
            U64 (digits_word n);
      }) g refl))
      ∙ ap (λ x. from_le_bytes w32 (take 4 (to_le_bytes w64 x))) same ∙ low_half n (omega arith) in
      let d = digits_read l.integers z in
      let few : ltb 2 (digit_count n) ≡ false = le-ltb 2 (digit_count n) (digits_most n) in
      rw (r, c, d, magnitude_back a n object low w small, few, signed_back z) refl

-- ---- values

-- an item of a list, by the word that names it
child_is : (m : Memory) (base n k b : ℕ) → word_at m (base + 8 * k) ≡ Ok b
    → child_at m (ItemsAt (record { count = n; base = base; offset = 0 })) k ≡ Ok (ItemChild b)
unfolding child_at item_at
child_is m base n k b h =
    let here : base + 8 * k ≡ base + 0 + 8 * k = omega arith in
    let word : word_at m (base + 0 + 8 * k) ≡ Ok b = subst (λ (x : ℕ). word_at m x ≡ Ok b) here h in
    rw word refl

pub record HasTypes (l : Layout) (m : Memory) (t : TypesAt) : Type 0 where
  pub integer : IsTypeAt l m t.integer (2 ^ 24) (codes "int")
  pub text : IsTypeAt l m t.text (2 ^ 28) (codes "str")
  pub list : IsTypeAt l m t.list (2 ^ 25) (codes "list")

module _ (l : Layout) (sound : IsSound l) (room : HasRoom l) (m : Memory) (t : TypesAt) (has : HasTypes l m t) where
  object_short : l.object.klass + 8 ≤ l.object.size
  unfolding object_places
  object_short = sound.objects.object.group.inside.0

  number_node : (a : ℕ) (z : ℤ) → unsigned_abs z < 2 ^ 60 →
      Stands m a (object (number_len l) (number_writes l t.integer z))
      → node_at l m a ≡ Ok (Whole (number_text (codes "int") z))
  unfolding node_at long_node
  number_node a z small s =
      let ws = number_writes l t.integer z in
      let g = number_group l sound room t.integer z in
      let o = object (number_len l) ws in
      let r : record_at m a l.object.size ≡ Ok (take l.object.size o) =
      record_stands_first l.object.size s (omega (arith, length-object (number_len l) ws g)) in
      let k : u64_in (take l.object.size o) l.object.klass ≡ t.integer =
      u64_read (number_len l) ws g l.object.size (omega arith) 2 l.object.klass t.integer refl has.integer.below
      object_short in
      let class = class_back l sound m a t.integer (2 ^ 24) (codes "int") (take l.object.size o) has.integer
      (int_front l sound m) (int_utf8 l sound m) r k in
      rw class (int_kind l sound m a (codes "int") ∙ rw (number_back l sound room m a t z small s) refl)

  words_node : (a : ℕ) (cs : List ℕ) → IsBriefText cs → Stands m a (text_object l (Some t.text) cs)
      → node_at l m a ≡ Ok (Quoted (encode_utf8_all cs))
  unfolding node_at text_node text_object text_len
  words_node a cs short s =
      let ws = text_writes l (Some t.text) (kind_for l.strings cs) cs in
      let g = text_group l sound room (Some t.text) cs in
      let n = text_len l cs in
      let o = object n ws in
      let r : record_at m a l.object.size ≡ Ok (take l.object.size o) =
      record_stands_first l.object.size s (omega (arith, length-object n ws g)) in
      let k : u64_in (take l.object.size o) l.object.klass ≡ t.text =
      u64_read n ws g l.object.size (omega arith) 3 l.object.klass t.text refl has.text.below object_short in
      let class = class_back l sound m a t.text (2 ^ 28) (codes "str") (take l.object.size o) has.text
      (str_front l sound m) (str_utf8 l sound m) r k in
      rw class (str_kind l sound m a (codes "str") ∙ rw (text_back l sound room m a (Some t.text) cs short s) refl)

  pub item_back : (a : ℕ) (x : Item) → IsValidItem x → Stands m a (laid_item l t x) → IsItemAt l m a x
  unfolding laid_item
  item_back a (Number z) good s = number_node a z good (stands_last _ s)
  item_back a (Words cs) good s = words_node a cs good (stands_last _ s)

  items_each : (xs : List Item) (base at : ℕ) → AllByRecursion IsValidItem xs
      → Stands m base (address_array (addresses_from (item_size l) at xs))
      → Stands m at (laid_all (item_size l) (λ at x. laid_item l t x) at xs)
      → (k : ℕ) (x : Item) → slice_get xs k ≡ Some x → (b : ℕ) × (word_at m (base + 8 * k) ≡ Ok b) × IsItemAt l m b x
  unfolding laid_chain
  items_each [] base at good words items k x e = absurd (cc)
  items_each (y ∷ ys) base at good words items zero x e =
      let same : y ≡ x = cc in
      let here : base ≡ base + 8 * 0 = omega arith in (
        at,
        ap (word_at m) (sym here) ∙ word_first at (addresses_from (item_size l) (at + item_size l y) ys)
            (omega (arith, items.ends)) words,
        rw (← same) (item_back at y good.0
            (stands_left (laid_item l t y) _ items)),
      )
  items_each (y ∷ ys) base at good words items (suc k) x e =
      let to = at + item_size l y in
      let more : Stands m to (laid_all (item_size l) (λ at x. laid_item l t x) to ys) =
      rw (length-item l sound t y) at (stands_right (laid_item l t y) _ items) in
      let h = items_each ys (base + 8) to good.1 (words_rest at (addresses_from (item_size l) to ys) words) more k x e
      in
      let there : base + 8 + 8 * k ≡ base + 8 * suc k = omega arith in
      (h.0, ap (word_at m) (sym there) ∙ h.1, h.2)

  pub value_back : (a : ℕ) (v : Held) → IsValidHeld v → Stands m a (laid_value l t a v) → IsValueAt l m a v
  unfolding laid_value node_at items_node items_at item_count list_places
  value_back a (Single x) good s = item_back a x good s
  value_back a (Items xs) good s =
      let n = length xs in
      let ws = list_writes l t.list n (items_place l a) in
      let g = list_group l sound room t.list n (items_place l a) in
      let o = object (list_len l) ws in
      let len = length-object (list_len l) ws g in
      let words = address_array (addresses_from (item_size l) (first_item l a xs) xs) in
      let words_len : length words ≡ 8 * n = omega (
        arith,
        length-address_array
            (addresses_from (item_size l) (first_item l a xs) xs),
        length-places (item_size l) (λ at x. at) (first_item l a xs) xs,
      ) in
      let s0 = stands_object o _ s in
      let s1 : Stands m (items_place l a) (aligned words ++ laid_all (item_size l) (λ at x. laid_item l t x)
      (first_item l a xs) xs) = stands_rest o _ (list_len l) len s in
      let s2 : Stands m (first_item l a xs) (laid_all (item_size l) (λ at x. laid_item l t x) (first_item l a xs) xs) =
      stands_rest words _ (8 * n) words_len s1 in
      let list = sound.objects.list.group.inside in
      let r0 : record_at m a l.object.size ≡ Ok (take l.object.size o) =
      record_stands_first l.object.size s0 (omega (arith, len)) in
      let k : u64_in (take l.object.size o) l.object.klass ≡ t.list =
      u64_read (list_len l) ws g l.object.size (omega arith) 2 l.object.klass t.list refl has.list.below
      object_short in
      let class = class_back l sound m a t.list (2 ^ 25) (codes "list") (take l.object.size o) has.list
      (list_front l sound m) (list_utf8 l sound m) r0 k in
      let r : record_at m a l.list.size ≡ Ok (take l.list.size o) =
      record_stands_first l.list.size s0 (omega (arith, len)) in
      let c : u64_in (take l.list.size o) l.list.count ≡ n =
      u64_read (list_len l) ws g l.list.size (omega arith) 0 l.list.count n refl (omega (arith, good.0)) list.0 in
      let i : u64_in (take l.list.size o) l.list.items ≡ items_place l a =
      u64_read (list_len l) ws g l.list.size (omega arith) 1 l.list.items (items_place l a) refl (omega (
        arith,
        s1.ends,
      )) list.1.0 in
      let few : ltb n (2 ^ 63) ≡ true = lt-ltb n (2 ^ 63) (omega (arith, good.0)) in
      record {
        items = record { count = n; base = items_place l a; offset = 0 };
        node = rw class (list_kind l sound m a (codes "list") l.bytes_text ∙ rw (r, c, few, i) refl);
        each = λ k x e. let h = items_each xs (items_place l a) (first_item l a xs) good.1
            (stands_object words _ s1) s2 k x e in (h.0, child_is m (items_place l a) n k h.0 h.1, h.2);
      }
