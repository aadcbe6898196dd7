-- A text that was laid reads back.
use Rattle.std.proofs.Common.{◌≡◌, ℕ, suc, ◌+◌, ◌*◌, ◌≤◌, Bool, true, false, cond, ltb, List, [], ◌∷◌, length, refl}
use Rattle.std.proofs.Common.{sym, ap, subst, ◌∙◌, rules, arith, take, map, inl, inr, length-append, encode_utf8_all}
use Rattle.std.specs.Prelude.{Result, Err, IfOk, ◌++◌, drop, Some, None, Option, Ok, ◌&&◌, IsSome, max, if◌then◌else◌}
use Rattle.std.specs.Option.{unwrap_or}
use Rattle.std.specs.List.{flat_map}
use Rattle.std.specs.Int.{w16, w32, to_le_bytes}
use Rattle.std.specs.Char.Escape.{encode_utf16}
use Rattle.std.proofs.lemmas.Bool.{ltb-true}
use Rattle.std.proofs.lemmas.List.{drop_at}
use Rattle.std.proofs.lemmas.Option.{same_Some}
use Rattle.std.proofs.lemmas.Str.{length-le-encodes}
use Rattle.std.proofs.str.Utf16.{one_unit}
use Rattle.elf64_core.specs.Fields.{u64_in, u32_in}
use Rattle.process_memory.specs.Memory.{Memory, record_at}
use Rattle.py_fields.specs.Places.{Place, Apart, AreApart, EndBy, IsGroup, object_places, optional_place, string_places}
use Rattle.py_fields.specs.Places.{string_head, state_bits}
use Rattle.py_fields.specs.Sound.{IsSound, IsSoundString, IsStart, HasState}
use Rattle.py_fields.proofs.Fields.{optional_end, some_is}
use Rattle.py_fields.specs.declared.layout.Layout.{Layout}
use Rattle.py_fields.specs.declared.layout.StringAt.{StringAt}
use Rattle.py_fields.specs.declared.layout.Strings.{Strings}
use Rattle.py_fields.specs.declared.layout.Strings.TheVariants.{State, Bytes as PlainBytes}
use Rattle.py_builtins.specs.declared.coding.TextKind.{TextKind}
use Rattle.py_builtins.specs.declared.coding.TextKind.TheVariants.{Utf8, Latin1, Utf16, Utf32}
use Rattle.py_builtins.specs.declared.strings.StateAt.{StateAt}
use Rattle.py_builtins.specs.TextKind.{coded, width}
use Rattle.py_builtins.specs.Texts.{state_at, state_of_fields, characters_of, characters_with, characters_at}
use Rattle.py_builtins.specs.Texts.{text_of_length, text_at}
use Rattle.py_builtins.proofs.Codings.{decoded_is}
use Rattle.py_builtins.proofs.Texts.{length_zero, length_fine, with_kind}
use Rattle.object_builder.specs.Objects.{Value, aligned, bytes_of, len_of, object, optional_write, write_place}
use Rattle.object_builder.specs.Objects.Value.{U32, Bytes}
use Rattle.object_builder.specs.Placing.{Stands}
use Rattle.object_builder.specs.Room.{HasRoom, klass_place}
use Rattle.object_builder.specs.Sizes.{all_under, is_short_headed, least_width, text_len}
use Rattle.object_builder.specs.Texts.{ReadsAsText, AreBits, Suits, least_kind, kind_for, units_of, state_of, state_by}
use Rattle.object_builder.specs.Texts.{start_of, klass_write, text_writes, text_object}
use Rattle.object_builder.specs.Texts.{IsBriefText}
use Rattle.object_builder.proofs.Objects.{length-inside, length-object, part-object, u64_read, u32_read}
use Rattle.object_builder.proofs.Placing.{record_stands, record_stands_first, stands_last}
use Rattle.object_builder.proofs.States.{kind_is, place_is, state_small}

both : (p q : Bool) → (p && q) ≡ true → (p ≡ true) × (q ≡ true)
both true true e = (refl, refl)
both true false e = absurd (cc)
both false true e = absurd (cc)
both false false e = absurd (cc)

-- ---- how many bytes

utf16_units : (cs : List ℕ) → all_under 0x1_0000 cs ≡ true → length (flat_map encode_utf16 cs) ≡ length cs
utf16_units [] e = refl
utf16_units (c ∷ cs) e =
    let p = both (ltb c 0x1_0000) (all_under 0x1_0000 cs) e in
    rw (one_unit c (ltb-true c 0x1_0000 p.0)) (ap suc (utf16_units cs p.1))

length-flat : (n : ℕ) (to : ℕ → List ℕ) → ((x : ℕ) → length (to x) ≡ n) → (xs : List ℕ)
    → length (flat_map to xs) ≡ length xs * n
length-flat n to size [] = omega arith
length-flat n to size (x ∷ xs) = omega (arith, length-append (to x) (flat_map to xs), size x, length-flat n to size xs)

pub length-coded : (k : TextKind) (cs : List ℕ) → Suits k cs → length (coded k cs) ≡ units_of k cs * width k
unfolding coded
length-coded Utf8 cs s = omega arith
length-coded Latin1 cs s = omega arith
length-coded Utf16 cs s = omega (
  arith,
  length-flat 2 (to_le_bytes w16) (λ x. refl) (flat_map encode_utf16 cs),
  utf16_units cs s,
)
length-coded Utf32 cs s = length-flat 4 (to_le_bytes w32) (λ x. refl) cs

least_suits : (cs : List ℕ) → Suits (least_kind cs) cs
least_suits cs =
    elim (all_under 0x80 cs) as (λ t. Suits (cond t Utf8 (cond (all_under 0x100 cs) Latin1
    (cond (all_under 0x1_0000 cs) Utf16 Utf32))) cs) [
      | true ↦ tt
      | false ↦ elim (all_under 0x100 cs) as (λ t. all_under 0x100 cs ≡ t
          → Suits (cond t Latin1 (cond (all_under 0x1_0000 cs) Utf16 Utf32)) cs) [
            | true ↦ λ e. e
            | false ↦ λ e. elim (all_under 0x1_0000 cs) as (λ t. all_under 0x1_0000 cs ≡ t
                → Suits (cond t Utf16 Utf32) cs) [ true ↦ λ e. e | false ↦ λ e. tt ] refl
          ] refl
    ]

pub suits : (s : Strings) (cs : List ℕ) → Suits (kind_for s cs) cs
suits State cs = least_suits cs
suits PlainBytes cs = tt

units_most : (k : TextKind) (cs : List ℕ) → (length cs ≤ units_of k cs) × (units_of k cs ≤ length (encode_utf8_all cs))
units_most Utf8 cs = (length-le-encodes cs, omega arith)
units_most Latin1 cs = (omega arith, length-le-encodes cs)
units_most Utf16 cs = (omega arith, length-le-encodes cs)
units_most Utf32 cs = (omega arith, length-le-encodes cs)

units_none : (k : TextKind) → units_of k [] ≡ 0
units_none Utf8 = refl
units_none Latin1 = refl
units_none Utf16 = refl
units_none Utf32 = refl

width_small : (k : TextKind) → width k ≤ 4
width_small Utf8 = omega arith
width_small Latin1 = omega arith
width_small Utf16 = omega arith
width_small Utf32 = omega arith

-- ---- how long a text is

-- where the characters end, by their kind
abbrev KindEnd : Layout → TextKind → List ℕ → ℕ
KindEnd l k cs = start_of l.string k + length (coded k cs)

plain_end : (l : Layout) (cs : List ℕ) → KindEnd l Utf8 cs ≡ l.string.short_at + length (encode_utf8_all cs)
unfolding coded
plain_end l cs = refl

latin_end : (l : Layout) (cs : List ℕ) → KindEnd l Latin1 cs ≡ unwrap_or l.string.long_at 0 + length cs
unfolding coded
latin_end l cs = refl

wide_end : (l : Layout) (cs : List ℕ) → KindEnd l (cond (all_under 0x100 cs) Latin1
    (cond (all_under 0x1_0000 cs) Utf16 Utf32)) cs ≡ unwrap_or l.string.long_at 0 + least_width cs * length cs
wide_end l cs =
    elim (all_under 0x100 cs) as (λ t. KindEnd l (cond t Latin1 (cond (all_under 0x1_0000 cs) Utf16 Utf32)) cs
    ≡ unwrap_or l.string.long_at 0 + cond t 1 (cond (all_under 0x1_0000 cs) 2 4) * length cs) [
      | true ↦ omega (arith, latin_end l cs)
      | false ↦ elim (all_under 0x1_0000 cs) as (λ t. all_under 0x1_0000 cs ≡ t
          → KindEnd l (cond t Utf16 Utf32) cs ≡ unwrap_or l.string.long_at 0 + cond t 2 4 * length cs) [
            | true ↦ λ e. omega (arith, length-coded Utf16 cs e)
            | false ↦ λ e. omega (arith, length-coded Utf32 cs tt)
          ] refl
    ]

end_for : (l : Layout) (f : Strings) (cs : List ℕ) → KindEnd l (kind_for f cs) cs
    ≡ (if is_short_headed f cs then l.string.short_at else unwrap_or l.string.long_at 0) +
    (if is_short_headed f cs then length (encode_utf8_all cs) else least_width cs * length cs)
end_for l State cs =
    elim (all_under 0x80 cs) as (λ t. KindEnd l (cond t Utf8
    (cond (all_under 0x100 cs) Latin1 (cond (all_under 0x1_0000 cs) Utf16 Utf32))) cs
    ≡ cond t l.string.short_at (unwrap_or l.string.long_at 0) + cond t (length (encode_utf8_all cs))
    (least_width cs * length cs)) [ true ↦ plain_end l cs | false ↦ wide_end l cs ]
end_for l PlainBytes cs = plain_end l cs

-- a text is as long as its kind wants
pub text_len_is : (l : Layout) (cs : List ℕ) → text_len l cs
    ≡ max (max l.string.size l.object.size) (start_of l.string (kind_for l.strings cs) + length
    (coded (kind_for l.strings cs) cs))
unfolding text_len
text_len_is l cs = ap (λ n. max (max l.string.size l.object.size) n) (sym (end_for l l.strings cs))

-- ---- the fields of a state

some_of : {T : Type 0} (o : Option T) → IsSome o → (x : T) × (o ≡ Some x)
some_of None e = absurd (search rules)
some_of (Some x) e = (x, refl)

record HasStateAt (s : StringAt) : Type 0 where
  t : StateAt
  is : state_at s ≡ Some t
  state : s.state ≡ Some t.state
  long : s.long_at ≡ Some t.long_at
  bits : AreBits t

fields_is : (o1 o2 o3 o4 o5 o6 : Option ℕ) (a b c d e f : ℕ) → o1 ≡ Some a → o2 ≡ Some b → o3 ≡ Some c → o4 ≡ Some d
    → o5 ≡ Some e → o6 ≡ Some f
    → state_of_fields o1 o2 o3 o4 o5 o6 ≡ Some (record {
      state = a;
      pointer = b;
      long_at = c;
      kind_shift = d;
      compact_bit = e;
      ascii_bit = f;
    })
fields_is o1 o2 o3 o4 o5 o6 a b c d e f p q r s t u = rw (p, q, r, s, t, u) refl

state_is : (s : StringAt) → HasState State s → IsGroup 32 (state_bits s) → HasStateAt s
unfolding state_bits
state_is s h bits =
    let a = some_of s.state (h.state.1 refl) in
    let b = some_of s.pointer (h.pointer.1 refl) in
    let c = some_of s.long_at (h.long_at.1 refl) in
    let d = some_of s.kind_shift (h.kind_shift.1 refl) in
    let e = some_of s.compact_bit (h.compact_bit.1 refl) in
    let f = some_of s.ascii_bit (h.ascii_bit.1 refl) in
    let inside : EndBy 32 ((d.0, 3) ∷ (e.0, 1) ∷ (f.0, 1) ∷ []) = rw (d.1, e.1, f.1) at bits.inside in
    let apart : AreApart ((d.0, 3) ∷ (e.0, 1) ∷ (f.0, 1) ∷ []) = rw (d.1, e.1, f.1) at bits.apart in
    record {
      t = record { state = a.0; pointer = b.0; long_at = c.0; kind_shift = d.0; compact_bit = e.0; ascii_bit = f.0 };
      is = fields_is s.state s.pointer s.long_at s.kind_shift s.compact_bit s.ascii_bit a.0 b.0 c.0 d.0 e.0 f.0 a.1 b.1
          c.1 d.1 e.1 f.1;
      state = a.1;
      long = c.1;
      bits = record {
        shift = omega (arith, inside.0);
        compact = omega (arith, inside.1.0);
        ascii = omega (arith, inside.1.1.0);
        compact_apart = apart.0.0;
        ascii_apart = apart.0.1.0;
        differ = apart.1.0.0;
      };
    }

-- ---- the places of a text

pub place_optional : (o : Option ℕ) (v : Value) → write_place (optional_write o v) ≡ optional_place o (len_of v)
place_optional None v = refl
place_optional (Some at) v = refl

apart_back : (p q : Place) → Apart p q → Apart q p
apart_back p q (inl le) = inr le
apart_back p q (inr le) = inl le

pub klass_apart : (l : Layout) (klass : Option ℕ) (p : Place) → Apart (klass_place l) p
    → Apart p (write_place (klass_write l klass))
klass_apart l None p h = inr (omega arith)
klass_apart l (Some k) p h = apart_back (klass_place l) p h

pub klass_inside : (l : Layout) (klass : Option ℕ) (n : ℕ) → l.object.klass + 8 ≤ n
    → (klass_write l klass).at + len_of (klass_write l klass).value ≤ n
klass_inside l None n h = omega arith
klass_inside l (Some k) n h = h

-- each write lies inside the text, whether there is room for its type or not
pub text_inside : (l : Layout) (sound : IsSound l) (klass : Option ℕ) (cs : List ℕ)
    → EndBy (text_len l cs) (map write_place (text_writes l klass (kind_for l.strings cs) cs))
unfolding string_places object_places
text_inside l sound klass cs =
    let k = kind_for l.strings cs in
    let n = text_len l cs in
    let len_is = text_len_is l cs in
    let g = sound.string.fields.group in
    let state = place_optional l.string.state (U32 (state_by (state_at l.string) k)) in
    let in_state : (optional_write l.string.state (U32 (state_by (state_at l.string) k))).at + len_of
    (optional_write l.string.state (U32 (state_by (state_at l.string) k))).value ≤ n =
    subst (λ (p : Place). p.0 + p.1 ≤ n) (sym state) (omega (arith, g.inside.1.0)) in
    let object : l.object.klass + 8 ≤ n = omega (arith, sound.objects.object.group.inside.0) in
    (omega (arith, g.inside.0), (in_state, (omega arith, (klass_inside l klass n object, tt))))

pub length-text : (l : Layout) (sound : IsSound l) (klass : Option ℕ) (cs : List ℕ)
    → length (text_object l klass cs) ≡ text_len l cs
unfolding text_object
length-text l sound klass cs =
    length-inside (text_len l cs) (text_writes l klass (kind_for l.strings cs) cs) (text_inside l sound klass cs)

-- the bits of a layout's state
pub bits_are : (l : Layout) (sound : IsSound l) (t : StateAt) → state_at l.string ≡ Some t → AreBits t
unfolding state_bits
bits_are l sound t is =
    let o = all_there l.string.state l.string.pointer l.string.long_at l.string.kind_shift l.string.compact_bit
    l.string.ascii_bit t is in
    let inside : EndBy 32 ((t.kind_shift, 3) ∷ (t.compact_bit, 1) ∷ (t.ascii_bit, 1) ∷ []) =
    rw (o.0, o.1, o.2) at sound.string.bits.inside in
    let apart : AreApart ((t.kind_shift, 3) ∷ (t.compact_bit, 1) ∷ (t.ascii_bit, 1) ∷ []) =
    rw (o.0, o.1, o.2) at sound.string.bits.apart in
    record {
      shift = omega (arith, inside.0);
      compact = omega (arith, inside.1.0);
      ascii = omega (arith, inside.1.1.0);
      compact_apart = apart.0.0;
      ascii_apart = apart.0.1.0;
      differ = apart.1.0.0;
    }
  where
    all_there : (a b c d e f : Option ℕ) (t : StateAt) → state_of_fields a b c d e f ≡ Some t
        → (d ≡ Some t.kind_shift) × (e ≡ Some t.compact_bit) × (f ≡ Some t.ascii_bit)
    all_there (Some a) (Some b) (Some c) (Some d) (Some e) (Some f) t is =
        let same = same_Some _ t is in (
          ap (λ x. Some x.kind_shift) same,
          ap (λ x. Some x.compact_bit) same,
          ap (λ x. Some x.ascii_bit) same,
        )
    all_there None b c d e f t is = absurd (cc)
    all_there (Some a) None c d e f t is = absurd (cc)
    all_there (Some a) (Some b) None d e f t is = absurd (cc)
    all_there (Some a) (Some b) (Some c) None e f t is = absurd (cc)
    all_there (Some a) (Some b) (Some c) (Some d) None f t is = absurd (cc)
    all_there (Some a) (Some b) (Some c) (Some d) (Some e) None t is = absurd (cc)

module _ (l : Layout) (sound : IsSound l) (room : HasRoom l) where
  -- where the characters stand is behind the fields
  abbrev Behind : TextKind → Type 0
  Behind k = EndBy (start_of l.string k) (string_head l.string) × (l.object.klass + 8 ≤ start_of l.string k)

  has_state : l.strings ≡ State → HasStateAt l.string
  has_state e = let h : IsSoundString State l.string = rw e at sound.string in state_is l.string h.optional h.bits

  behind_kind : (t : ℕ) → l.string.long_at ≡ Some t → (k : TextKind) → Behind k
  unfolding string_head
  behind_kind t long Utf8 = (sound.string.short_at.behind, room.short_at)
  behind_kind t long Latin1 = rw long (
    (some_is l.string.long_at
        (IsStart (string_head l.string)) t sound.string.long_at long).behind,
    some_is l.string.long_at (λ at. l.object.klass + 8 ≤ at) t room.long_at long,
  )
  behind_kind t long Utf16 = rw long (
    (some_is l.string.long_at
        (IsStart (string_head l.string)) t sound.string.long_at long).behind,
    some_is l.string.long_at (λ at. l.object.klass + 8 ≤ at) t room.long_at long,
  )
  behind_kind t long Utf32 = rw long (
    (some_is l.string.long_at
        (IsStart (string_head l.string)) t sound.string.long_at long).behind,
    some_is l.string.long_at (λ at. l.object.klass + 8 ≤ at) t room.long_at long,
  )

  behind : (f : Strings) → l.strings ≡ f → (cs : List ℕ) → Behind (kind_for f cs)
  behind State e cs = let h = has_state e in behind_kind h.t.long_at h.long (least_kind cs)
  behind PlainBytes e cs = (sound.string.short_at.behind, room.short_at)

  pub text_group : (klass : Option ℕ) (cs : List ℕ) → IsGroup (text_len l cs)
      (map write_place (text_writes l klass (kind_for l.strings cs) cs))
  unfolding string_head string_places
  text_group klass cs =
      let len_is = text_len_is l cs in
      let k = kind_for l.strings cs in
      let b = behind l.strings refl cs in
      let g = sound.string.fields.group in
      let state = place_optional l.string.state (U32 (state_by (state_at l.string) k)) in
      let n = text_len l cs in
      let in_state : (optional_write l.string.state (U32 (state_by (state_at l.string) k))).at + len_of
      (optional_write l.string.state (U32 (state_by (state_at l.string) k))).value ≤ n =
      subst (λ (p : Place). p.0 + p.1 ≤ n) (sym state) (omega (arith, g.inside.1.0)) in
      let object : l.object.klass + 8 ≤ n = omega (arith, b.1) in
      record {
        inside = (omega (arith, g.inside.0), (in_state, (omega arith, (klass_inside l klass n object, tt))));
        apart = (
          (
            subst (λ (p : Place). Apart (l.string.length, 8) p) (sym state) g.apart.0.0,
            (inl b.0.0, (klass_apart l klass (l.string.length, 8) room.text.0, tt)),
          ),
          (
            (
              subst (λ (p : Place). Apart p (start_of l.string k, length (coded k cs))) (sym state) (inl b.0.1.0),
              (klass_apart l klass _ (subst (λ (p : Place). Apart (klass_place l) p) (sym state) room.text.1.0), tt),
            ),
            ((klass_apart l klass (start_of l.string k, length (coded k cs)) (inl b.1), tt), (tt, tt)),
          ),
        );
      }

  -- how the characters are coded and where they stand, by a record with the state of their kind
  chars_of : (f : Strings) → l.strings ≡ f → (k : TextKind) → (f ≡ PlainBytes → k ≡ Utf8) → (a : ℕ) (object : List ℕ)
      → ((h : HasStateAt l.string) → u32_in object h.t.state ≡ state_of h.t k)
      → characters_with f l.string a object ≡ Some (record { kind = k; at = a + start_of l.string k })
  chars_of State e k plain a object st =
      let h = has_state e in
      rw h.is (rw (st h) (rw (place_is h.t h.bits l.string h.long k a object, kind_is h.t h.bits k) refl))
  chars_of PlainBytes e k plain a object st = rw (plain refl) refl

  plain_kind : (f : Strings) (cs : List ℕ) → f ≡ PlainBytes → kind_for f cs ≡ Utf8
  plain_kind State cs e = absurd (cc)
  plain_kind PlainBytes cs e = refl

  read_units : (m : Memory) (a : ℕ) (object cs : List ℕ) (k : TextKind) → IsBriefText cs → Suits k cs
      → characters_of l a object ≡ Some (record { kind = k; at = a + start_of l.string k })
      → record_at m (a + start_of l.string k) (units_of k cs * width k) ≡ Ok (coded k cs)
      → text_of_length l m a object (units_of k cs) ≡ Ok cs
  read_units m a object [] k short suit is chars = length_zero l m a object (units_of k []) (units_none k)
  read_units m a object (c ∷ cs) k short suit is chars =
      let most = units_most k (c ∷ cs) in
      length_fine l m a object (units_of k (c ∷ cs)) (omega (arith, most.0)) (omega (arith, most.1, short.bytes))
      ∙ ap (characters_at m (units_of k (c ∷ cs))) is
      ∙ with_kind m (units_of k (c ∷ cs)) (record { kind = k; at = a + start_of l.string k })
      ∙ rw (chars, decoded_is k (c ∷ cs) (coded k (c ∷ cs)) (record { scalars = short.scalars; is = refl })) refl

  pub text_back : (m : Memory) (a : ℕ) (klass : Option ℕ) (cs : List ℕ) → IsBriefText cs
      → Stands m a (text_object l klass cs) → text_at l m a ≡ Ok cs
  unfolding text_at text_object bytes_of characters_of string_places
  text_back m a klass cs short st =
      let len_is = text_len_is l cs in
      let s = l.string in
      let k = kind_for l.strings cs in
      let n = text_len l cs in
      let ws = text_writes l klass k cs in
      let g = text_group klass cs in
      let o = object n ws in
      let suit = suits l.strings cs in
      let coded_len = length-coded k cs suit in
      let len : length o ≡ n = length-object n ws g in
      let most = units_most k cs in
      let rec : record_at m a s.size ≡ Ok (take s.size o) = record_stands_first s.size st (omega arith) in
      let word : u64_in (take s.size o) s.length ≡ units_of k cs =
      u64_read n ws g s.size (omega arith) 0 s.length (units_of k cs) refl (omega (
        arith,
        most.1,
        short.bytes,
      )) sound.string.fields.group.inside.0 in
      let state : (h : HasStateAt s) → u32_in (take s.size o) h.t.state ≡ state_of h.t k = λ h.
      u32_read n ws g s.size (omega arith) 1 h.t.state (state_of h.t k)
      (ap (λ q. Some (optional_write s.state (U32 (state_by q k)))) h.is
      ∙ ap (λ q. Some (optional_write q (U32 (state_of h.t k)))) h.state)
      (state_small h.t h.bits k)
      (optional_end s.state 4 s.size h.t.state sound.string.fields.group.inside.1.0 h.state) in
      let is : characters_of l a (take s.size o) ≡ Some (record { kind = k; at = a + start_of s k }) =
      chars_of l.strings refl k (plain_kind l.strings cs) a (take s.size o) state in
      let chars : record_at m (a + start_of s k) (units_of k cs * width k) ≡ Ok (coded k cs) =
      rw coded_len at (record_stands (start_of s k) (length (coded k cs)) st (omega arith)
      ∙ ap Ok (part-object n ws 2 (record { at = start_of s k; value = Bytes (coded k cs) }) g refl)) in
      rw (rec, word) (read_units m a (take s.size o) cs k short suit is chars)

-- what was added of a text is read as it
pub reads_of : {T E : Type 0} (r : Result T E) (new old : List ℕ) (l : Layout) (sound : IsSound l) (room : HasRoom l)
    (klass : Option ℕ) (text : List ℕ) → IsBriefText text
    → IfOk r (λ _. new ≡ old ++ aligned (text_object l klass text))
    → IfOk r (λ _. ReadsAsText l text (drop (length old) new))
reads_of (Ok x) new old l sound room klass text brief e =
    let o = text_object l klass text in
    let added : drop (length old) new ≡ aligned o =
    ap (drop (length old)) e ∙ drop_at old (aligned o) (length old) refl in
    λ m a s. text_back l sound room m a klass text brief (stands_last o (subst (λ bs. Stands m a bs) added s))
reads_of (Err x) new old l sound room klass text brief e = tt
