-- The fields of a frame's records, which stand apart; and the bytes of a line table.
use Rattle.std.proofs.Common.{◌≡◌, ℕ, zero, suc, ◌+◌, ◌*◌, ◌/◌, ◌%◌, ◌<◌, ◌≤◌, ◌^◌, true, false, leb, List, [], ◌∷◌}
use Rattle.std.proofs.Common.{◌++◌, length, map, refl, sym, ap, subst, ◌∙◌, arith, take, inl}
use Rattle.std.specs.Prelude.{pos, Some, None, Option, Ok, max}
use Rattle.std.specs.Option.{unwrap_or}
use Rattle.std.specs.Int.{w32, cast_signed}
use Rattle.std.proofs.lemmas.Int.{to_z_pos, ints}
use Rattle.std.proofs.lemmas.Bool.{lt-ltb, lt-leb}
use Rattle.elf64_core.specs.Fields.{u64_in, u32_in, u8_in}
use Rattle.process_memory.specs.Memory.{Memory, record_at}
use Rattle.py_fields.specs.Places.{Place, ApartFrom, AreApart, EndBy, IsGroup, instr_width, frame_places, code_places}
use Rattle.py_fields.specs.Places.{bytes_places, tuple_places}
use Rattle.py_fields.specs.Sound.{IsSound}
use Rattle.py_fields.proofs.Fields.{frame_fits, code_fits}
use Rattle.py_fields.specs.declared.layout.Lasti.{Lasti}
use Rattle.py_fields.specs.declared.layout.Lasti.TheVariants.{Bytes as InBytes, Units, Pointer}
use Rattle.py_fields.specs.declared.layout.Layout.{Layout}
use Rattle.py_lines.specs.Lines.{in_i32}
use Rattle.py_builtins.specs.Bytes.{bytes_object_at, bytes_of_length}
use Rattle.py_stacks.specs.Member.{MemberAt}
use Rattle.py_stacks.specs.Frames.{entered_at}
use Rattle.py_stacks.specs.Lines.{offset_by}
use Rattle.object_builder.specs.Objects.{Write, bytes_of, object, optional_write, write_place}
use Rattle.object_builder.specs.Objects.Value.{U8, Bytes}
use Rattle.object_builder.specs.Placing.{Stands}
use Rattle.memory_builder.specs.Frames.{start_in, instr_value, frame_writes, code_writes, table_writes, tuple_writes}
use Rattle.memory_builder.proofs.FrameInside.{len-instr}
use Rattle.object_builder.proofs.Objects.{length-object, part-object, u64_read, u32_read, u8_read}
use Rattle.object_builder.proofs.Placing.{record_stands, record_stands_first}
use Rattle.object_builder.proofs.TextsBack.{place_optional}

-- ---- groups with a part behind the fields

ends_behind : (n start len : ℕ) (ps : List Place) → (size : ℕ) → size ≤ n → EndBy size ps → start + len ≤ n
    → EndBy n (ps ++ (start, len) ∷ [])
ends_behind n start len [] size le ends fits = (fits, tt)
ends_behind n start len (p ∷ ps) size le ends fits = (
  omega (arith, le, ends.0),
  ends_behind n start len ps size le ends.1 fits,
)

apart_behind : (start len : ℕ) (p : Place) (ps : List Place) → p.0 + p.1 ≤ start → ApartFrom p ps
    → ApartFrom p (ps ++ (start, len) ∷ [])
apart_behind start len p [] le apart = (inl le, tt)
apart_behind start len p (q ∷ qs) le apart = (apart.0, apart_behind start len p qs le apart.1)

all_apart_behind : (start len : ℕ) (ps : List Place) → EndBy start ps → AreApart ps → AreApart (ps ++ (start, len) ∷ [])
all_apart_behind start len [] ends apart = (tt, tt)
all_apart_behind start len (p ∷ ps) ends apart = (
  apart_behind start len p ps ends.0 apart.0,
  all_apart_behind start len ps ends.1 apart.1,
)

group_behind : (size n start len : ℕ) (ps : List Place) → IsGroup size ps → size ≤ n → EndBy start ps → start + len ≤ n
    → IsGroup n (ps ++ (start, len) ∷ [])
group_behind size n start len ps g le ends fits = record {
  inside = ends_behind n start len ps size le g.inside fits;
  apart = all_apart_behind start len ps ends g.apart;
}

pub tag_is : (bits a : ℕ) → bits ≤ 3 → a % 16 ≡ 0 → a / 2 ^ bits * 2 ^ bits ≡ a
tag_is zero a le mul = omega arith
tag_is (suc zero) a le mul = omega arith
tag_is (suc (suc zero)) a le mul = omega arith
tag_is (suc (suc (suc zero))) a le mul = omega arith
tag_is (suc (suc (suc (suc n)))) a le mul = absurd (omega arith)

pub fits_i32 : (n : ℕ) → n < 2 ^ 31 → in_i32 (pos n) ≡ Some (pos n)
fits_i32 n h = rw (lt-ltb n (2 ^ 31) h) refl

pub signed_small : (n : ℕ) → n < 2 ^ 31 → cast_signed w32 n ≡ pos n
signed_small n h = to_z_pos w32 n h

module _ (l : Layout) (sound : IsSound l) where
  pub frame_group : (code back offset n : ℕ) (slots : List ℕ) → l.frame.size ≤ n → l.frame.locals + length slots ≤ n
      → IsGroup n (map write_place (frame_writes l code back offset slots))
  unfolding frame_places
  frame_group code back offset n slots le fits =
      let g = group_behind l.frame.size n l.frame.locals (length slots)
      (frame_places l.lasti l.frame) sound.frame.fields.group le sound.frame.locals.behind fits in
      subst (λ (w : ℕ). IsGroup n ((l.frame.code, 8) ∷ (l.frame.back, 8) ∷ (l.frame.instr, w)
      ∷ write_place (optional_write l.frame.entry (U8 1)) ∷ (l.frame.locals, length slots) ∷ []))
      (sym (len-instr l.lasti (start_in l code) offset))
      (subst (λ (p : Place). IsGroup n ((l.frame.code, 8) ∷ (l.frame.back, 8) ∷ (l.frame.instr, instr_width l.lasti) ∷ p
      ∷ (l.frame.locals, length slots) ∷ []))
      (sym (place_optional l.frame.entry (U8 1))) g)

  pub code_group : (args count first file name table names : ℕ)
      → IsGroup l.code.size (map write_place (code_writes l args count first file name table names))
  unfolding code_places
  code_group args count first file name table names = sound.code.fields.group

  pub table_group : (table : List ℕ) (n : ℕ) → l.bytes.size ≤ n → l.bytes.at + length table ≤ n
      → IsGroup n (map write_place (table_writes l table))
  unfolding bytes_places
  table_group table n le fits = group_behind l.bytes.size n l.bytes.at (length table)
      (bytes_places l.bytes) sound.objects.bytes.fields.group le sound.objects.bytes.at.behind fits

  pub tuple_group : (count : ℕ) (names : List ℕ) (n : ℕ) → l.tuple.size ≤ n → l.tuple.at + length names ≤ n
      → IsGroup n (map write_place (tuple_writes l count names))
  unfolding tuple_places
  tuple_group count names n le fits = group_behind l.tuple.size n l.tuple.at (length names)
      (tuple_places l.tuple) sound.objects.tuple.fields.group le sound.objects.tuple.at.behind fits

  -- ---- the fields of a frame that are told in more than one way

  module _ (n code back offset : ℕ) (slots : List ℕ) (le : l.frame.size ≤ n)
      (fits : l.frame.locals + length slots ≤ n) where
    abbrev the_writes : List Write
    the_writes = frame_writes l code back offset slots

    abbrev the_frame : List ℕ
    the_frame = take l.frame.size (object n the_writes)

    pub instr_back : (x : Lasti) → l.lasti ≡ x → (r : MemberAt) → r.code_at ≡ code → r.frame ≡ the_frame
        → offset < 2 ^ 31 → offset % 2 ≡ 0 → start_in l code + offset < 2 ^ 64 → offset_by x l r ≡ pos offset
    instr_back InBytes e r at is small even below =
        let g = frame_group code back offset n slots le fits in
        let f = frame_fits sound in
        let width : l.frame.instr + 4 ≤ l.frame.size = rw e at f.instr in
        let i : u32_in the_frame l.frame.instr ≡ offset = u32_read n the_writes g l.frame.size le 2 l.frame.instr offset
        (ap (λ x. Some (record { at = l.frame.instr; value = instr_value x (start_in l code) offset })) e)
        (omega arith) width in
        rw (is, i) (signed_small offset small)
    instr_back Units e r at is small even below =
        let g = frame_group code back offset n slots le fits in
        let f = frame_fits sound in
        let width : l.frame.instr + 4 ≤ l.frame.size = rw e at f.instr in
        let i : u32_in the_frame l.frame.instr ≡ offset / 2 =
        u32_read n the_writes g l.frame.size le 2 l.frame.instr (offset / 2)
        (ap (λ x. Some (record { at = l.frame.instr; value = instr_value x (start_in l code) offset })) e)
        (omega arith) width in
        let half : cast_signed w32 (offset / 2) ≡ pos (offset / 2) = signed_small (offset / 2) (omega arith) in
        rw (is, i, half) (omega (arith, ints))
    instr_back Pointer e r at is small even below =
        let g = frame_group code back offset n slots le fits in
        let f = frame_fits sound in
        let width : l.frame.instr + 8 ≤ l.frame.size = rw e at f.instr in
        let i : u64_in the_frame l.frame.instr ≡ start_in l code + offset =
        u64_read n the_writes g l.frame.size le 2 l.frame.instr (start_in l code + offset)
        (ap (λ x. Some (record { at = l.frame.instr; value = instr_value x (start_in l code) offset })) e) below
        width in
        rw (is, i, at) (omega (arith, ints))

    pub entry_back : (o : Option ℕ) → l.frame.entry ≡ o → entered_at o the_frame ≡ true
    entry_back None e = refl
    entry_back (Some at) e =
        let g = frame_group code back offset n slots le fits in
        let f = frame_fits sound in
        let i : u8_in the_frame at ≡ 1 = u8_read n the_writes g l.frame.size le 3 at 1
        (ap (λ o. Some (optional_write o (U8 1))) e) (f.entry at e) in
        rw i refl

  pub start_below : (code offset : ℕ) → code < 2 ^ 63 → offset < 2 ^ 31 → start_in l code + offset < 2 ^ 64
  start_below code offset below small = from l.code.start refl
    where
      from : (o : Option ℕ) → l.code.start ≡ o → code + unwrap_or o 0 + offset < 2 ^ 64
      from None e = omega arith
      from (Some start) e = omega (arith, (code_fits sound).start start e)

  -- ---- the bytes of a line table

  pub table_back : (m : Memory) (a : ℕ) (table : List ℕ) → length table < 65536
      → Stands m a (object (max l.bytes.size (l.bytes.at + length table)) (table_writes l table))
      → bytes_object_at l m a ≡ Ok table
  unfolding bytes_object_at bytes_of_length bytes_of bytes_places
  table_back m a table short s =
      let n = max l.bytes.size (l.bytes.at + length table) in
      let ws = table_writes l table in
      let g = table_group table n (omega arith) (omega arith) in
      let o = object n ws in
      let len : length o ≡ n = length-object n ws g in
      let r : record_at m a l.bytes.size ≡ Ok (take l.bytes.size o) =
      record_stands_first l.bytes.size s (omega arith) in
      let w : u64_in (take l.bytes.size o) l.bytes.length ≡ length table =
      u64_read n ws g l.bytes.size (omega arith) 0 l.bytes.length (length table) refl
      (omega arith) sound.objects.bytes.fields.group.inside.0 in
      let below : leb 65536 (length table) ≡ false = lt-leb 65536 (length table) short in
      let b : record_at m (a + l.bytes.at) (length table) ≡ Ok table =
      record_stands l.bytes.at (length table) s (omega arith)
      ∙ ap Ok (part-object n ws 1 (record { at = l.bytes.at; value = Bytes table }) g refl) in
      rw (r, w, below) b
