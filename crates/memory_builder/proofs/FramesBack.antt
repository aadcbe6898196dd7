-- A frame that was laid reads back.
use Rattle.std.proofs.Common.{◌≡◌, ℕ, ◌+◌, ◌*◌, ◌/◌, ◌%◌, ◌<◌, ◌≤◌, ◌^◌, true, ltb, leb, List, ◌++◌, length, refl, sym}
use Rattle.std.proofs.Common.{ap, ◌∙◌, arith, take, length-append, append_assoc}
use Rattle.std.specs.Prelude.{pos, Some, None, Ok}
use Rattle.std.specs.List.{flat_map, sum_by}
use Rattle.std.proofs.lemmas.Bool.{lt-ltb, le-leb}
use Rattle.elf64_core.specs.Fields.{u64_in, u32_in}
use Rattle.process_memory.specs.Memory.{Memory, record_at}
use Rattle.py_fields.specs.Places.{code_places}
use Rattle.py_fields.specs.Sound.{IsSound}
use Rattle.py_fields.proofs.Fields.{frame_fits, code_fits}
use Rattle.py_fields.specs.declared.layout.Layout.{Layout}
use Rattle.py_lines.specs.Lines.{in_i32}
use Rattle.py_builtins.specs.Bytes.{bytes_object_at}
use Rattle.py_builtins.specs.Texts.{text_at}
use Rattle.py_stacks.specs.Frames.{code_of, is_entered, records_at}
use Rattle.py_stacks.specs.Lines.{first_line, offset_of}
use Rattle.py_stacks.specs.Locals.{count_of}
use Rattle.object_builder.specs.Objects.{bytes_of, object, aligned}
use Rattle.object_builder.specs.Objects.Value.{Bytes}
use Rattle.object_builder.specs.Placing.{Stands}
use Rattle.memory_builder.specs.Program.{Frame}
use Rattle.object_builder.specs.Room.{HasRoom}
use Rattle.object_builder.specs.Texts.{text_object}
use Rattle.memory_builder.specs.Chains.{addresses_from}
use Rattle.memory_builder.specs.Values.{address_array, laid_all, laid_name, laid_local}
use Rattle.memory_builder.specs.Sizes.{frame_len, frame_size, local_size, name_size, records_size, table_len, text_len}
use Rattle.memory_builder.specs.Sizes.{tuple_len}
use Rattle.memory_builder.specs.Frames.{code_place, table_place, tuple_place, file_place, name_place, names_place}
use Rattle.memory_builder.specs.Frames.{values_place, start_in, frame_writes, code_writes, tuple_writes, table_object}
use Rattle.memory_builder.specs.Frames.{coded_lines, first_number, laid_records, laid_contents, laid_frame}
use Rattle.memory_builder.specs.declared.values.TypesAt.{TypesAt}
use Rattle.object_builder.proofs.Objects.{length-object, u64_read, u32_read}
use Rattle.object_builder.proofs.Placing.{record_stands_first, stands_write, stands_object, stands_rest, stands_left}
use Rattle.object_builder.proofs.Placing.{stands_right, length-aligned}
use Rattle.memory_builder.proofs.Chains.{length-chain, chain_even}
use Rattle.memory_builder.proofs.Growing.{all_flat}
use Rattle.memory_builder.proofs.Groups.{frame_group, code_group, table_group, tuple_group, tag_is, fits_i32}
use Rattle.memory_builder.proofs.Groups.{signed_small, instr_back, entry_back, start_below, table_back}
use Rattle.memory_builder.proofs.LaidValues.{addresses_len}
use Rattle.memory_builder.proofs.Plain.{IsFrame}
use Rattle.memory_builder.proofs.ValuesBack.{length-local, length-name, local_even, name_even}
use Rattle.object_builder.proofs.TextsBack.{length-text, text_back}

-- ---- the objects

abbrev slot_bytes : Layout → ℕ → Frame → List ℕ
slot_bytes l a f = address_array (addresses_from (local_size l) (values_place l a f) f.locals)

abbrev name_bytes : Layout → ℕ → Frame → List ℕ
name_bytes l a f = address_array (addresses_from (name_size l) (names_place l a f) f.locals)

abbrev pub frame_object : Layout → ℕ → ℕ → Frame → List ℕ
frame_object l a back f = object (frame_len l f) (frame_writes l (code_place l a f) back f.offset (slot_bytes l a f))

abbrev pub code_object : Layout → ℕ → Frame → List ℕ
code_object l a f = object l.code.size (code_writes l f.args (length f.locals) (first_number f) (file_place l a f)
    (name_place l a f) (table_place l a f) (tuple_place l a f))

abbrev pub tuple_object : Layout → ℕ → Frame → List ℕ
tuple_object l a f = object (tuple_len l f) (tuple_writes l (length f.locals) (name_bytes l a f))

-- ---- a frame

regroup : (A B C D R : List ℕ) → (A ++ (B ++ (C ++ D))) ++ R ≡ A ++ (B ++ (C ++ (D ++ R)))
regroup A B C D R = append_assoc A (B ++ (C ++ D)) R ∙ ap (λ xs. A ++ xs) (append_assoc B (C ++ D) R)
    ∙ ap (λ xs. A ++ (B ++ xs)) (append_assoc C D R)

abbrev laid_names : Layout → ℕ → Frame → List ℕ
laid_names l a f = laid_all (name_size l) (λ at v. laid_name l v) (names_place l a f) f.locals

abbrev laid_locals : Layout → TypesAt → ℕ → Frame → List ℕ
laid_locals l t a f = laid_all (local_size l) (laid_local l t) (values_place l a f) f.locals

-- all of them, one behind the other
abbrev flat_frame : Layout → TypesAt → ℕ → ℕ → Frame → List ℕ
flat_frame l t a back f =
    aligned (frame_object l a back f) ++
    (aligned (code_object l a f) ++
    (aligned (table_object l f) ++
    (aligned (tuple_object l a f) ++
    (aligned (text_object l None f.filename) ++
    (aligned (text_object l None f.name) ++
    (laid_names l a f ++ laid_locals l t a f))))))

frame_flat : (l : Layout) (t : TypesAt) (a back : ℕ) (f : Frame) → laid_frame l t a back f ≡ flat_frame l t a back f
unfolding laid_frame laid_records laid_contents
frame_flat l t a back f =
    let texts : List ℕ → List ℕ = λ names. aligned (text_object l None f.filename)
    ++ (aligned (text_object l None f.name) ++ (names ++ laid_locals l t a f)) in
    regroup (aligned (frame_object l a back f)) (aligned (code_object l a f)) (aligned (table_object l f))
    (aligned (tuple_object l a f)) (texts (flat_map (laid_name l) f.locals))
    ∙ ap (λ names. aligned (frame_object l a back f) ++ (aligned (code_object l a f)
    ++ (aligned (table_object l f) ++ (aligned (tuple_object l a f) ++ texts names))))
    (sym (all_flat (name_size l) (laid_name l) (names_place l a f) f.locals))

-- what is read of a frame
pub record IsMember (l : Layout) (t : TypesAt) (m : Memory) (a back : ℕ) (f : Frame) : Type 0 where
  pub frame : List ℕ
  pub code : List ℕ
  pub read : records_at l m a ≡ Ok (record { frame_at = a; frame = frame; code_at = code_place l a f; code = code })
  pub back_is : u64_in frame l.frame.back ≡ back
  pub entered : is_entered l.frame frame ≡ true
  pub file_is : text_at l m (u64_in code l.code.filename) ≡ Ok f.filename
  pub name_is : text_at l m (u64_in code l.code.name) ≡ Ok f.name
  pub first_is : first_line l (record { frame_at = a; frame = frame; code_at = code_place l a f; code = code })
      ≡ f.first
  pub offset_is : offset_of l (record { frame_at = a; frame = frame; code_at = code_place l a f; code = code })
      ≡ Some (pos f.offset)
  pub table_is : bytes_object_at l m (u64_in code l.code.table) ≡ Ok (coded_lines l f)
  pub count_is : count_of l (record { frame_at = a; frame = frame; code_at = code_place l a f; code = code })
      ≡ Ok (length f.locals)
  pub args_is : u32_in code l.code.argcount ≡ f.args
  pub names_is : u64_in code l.code.varnames ≡ tuple_place l a f
  -- where the names and the slots stand, and what they name
  pub tuple : List ℕ
  pub tuple_is : record_at m (tuple_place l a f) l.tuple.size ≡ Ok tuple
  pub words : Stands m (tuple_place l a f + l.tuple.at) (address_array
      (addresses_from (name_size l) (names_place l a f) f.locals))
  pub slots : Stands m (a + l.frame.locals) (address_array (addresses_from (local_size l)
      (values_place l a f) f.locals))
  pub names : Stands m (names_place l a f) (laid_all (name_size l) (λ at v. laid_name l v) (names_place l a f) f.locals)
  pub values : Stands m (values_place l a f) (laid_all (local_size l) (laid_local l t) (values_place l a f) f.locals)

module _ (l : Layout) (sound : IsSound l) (t : TypesAt) where
  -- what stands of a frame
  record StandFrame (m : Memory) (a back : ℕ) (f : Frame) : Type 0 where
    frame : Stands m a (frame_object l a back f)
    code : Stands m (code_place l a f) (code_object l a f)
    table : Stands m (table_place l a f) (table_object l f)
    tuple : Stands m (tuple_place l a f) (tuple_object l a f)
    file : Stands m (file_place l a f) (text_object l None f.filename)
    name : Stands m (name_place l a f) (text_object l None f.name)
    names : Stands m (names_place l a f) (laid_all (name_size l) (λ at v. laid_name l v) (names_place l a f) f.locals)
    values : Stands m (values_place l a f) (laid_all (local_size l) (laid_local l t) (values_place l a f) f.locals)

  slots_fit : (a : ℕ) (f : Frame) → l.frame.locals + length (slot_bytes l a f) ≤ frame_len l f
  slots_fit a f = omega (arith, addresses_len (local_size l) (values_place l a f) f.locals)

  names_fit : (a : ℕ) (f : Frame) → l.tuple.at + length (name_bytes l a f) ≤ tuple_len l f
  names_fit a f = omega (arith, addresses_len (name_size l) (names_place l a f) f.locals)

  length-frame_object : (a back : ℕ) (f : Frame) → length (frame_object l a back f) ≡ frame_len l f
  length-frame_object a back f = length-object (frame_len l f) _
      (frame_group l sound (code_place l a f) back f.offset (frame_len l f) _ (omega arith) (slots_fit a f))

  length-code_object : (a : ℕ) (f : Frame) → length (code_object l a f) ≡ l.code.size
  length-code_object a f = length-object l.code.size _ (code_group l sound f.args (length f.locals) (first_number f)
      (file_place l a f) (name_place l a f) (table_place l a f) (tuple_place l a f))

  length-table_object : (f : Frame) → length (table_object l f) ≡ table_len l f
  length-table_object f = length-object (table_len l f) _ (table_group l sound (coded_lines l f) (table_len l f)
      (omega arith) (omega arith))

  length-tuple_object : (a : ℕ) (f : Frame) → length (tuple_object l a f) ≡ tuple_len l f
  length-tuple_object a f = length-object (tuple_len l f) _
      (tuple_group l sound (length f.locals) _ (tuple_len l f) (omega arith) (names_fit a f))

  length-names : (a : ℕ) (f : Frame) → length (laid_all (name_size l) (λ at v. laid_name l v) a f.locals)
      ≡ sum_by (name_size l) f.locals
  length-names a f = length-chain (name_size l) (λ at next v. laid_name l v)
      (λ at next v. length-name l sound v) a f.locals

  stand_frame : (m : Memory) (a back : ℕ) (f : Frame) → Stands m a (flat_frame l t a back f) → StandFrame m a back f
  stand_frame m a back f s =
      let s1 = stands_rest (frame_object l a back f) _ (frame_len l f) (length-frame_object a back f) s in
      let s2 = stands_rest (code_object l a f) _ l.code.size (length-code_object a f) s1 in
      let s3 = stands_rest (table_object l f) _ (table_len l f) (length-table_object f) s2 in
      let s4 = stands_rest (tuple_object l a f) _ (tuple_len l f) (length-tuple_object a f) s3 in
      let s5 = stands_rest (text_object l None f.filename) _ (text_len l f.filename)
      (length-text l sound None f.filename) s4 in
      let s6 = stands_rest (text_object l None f.name) _ (text_len l f.name)
      (length-text l sound None f.name) s5 in
      record {
        frame = stands_object (frame_object l a back f) _ s;
        code = stands_object (code_object l a f) _ s1;
        table = stands_object (table_object l f) _ s2;
        tuple = stands_object (tuple_object l a f) _ s3;
        file = stands_object (text_object l None f.filename) _ s4;
        name = stands_object (text_object l None f.name) _ s5;
        names = stands_left _ _ s6;
        values = rw (length-names (names_place l a f) f) at
            (stands_right (laid_all (name_size l) (λ at v. laid_name l v) (names_place l a f) f.locals) _ s6);
      }

  pub member_back : (room : HasRoom l) (m : Memory) (a back : ℕ) (f : Frame) → a % 16 ≡ 0 → back < 2 ^ 64 → IsFrame l f
      → Stands m a (laid_frame l t a back f) → IsMember l t m a back f
  unfolding records_at code_of is_entered first_line offset_of count_of code_places bytes_of
  member_back room m a back f mul below is s =
      let st = stand_frame m a back f (rw (frame_flat l t a back f) at s) in
      let ff = frame_fits sound in
      let cf = code_fits sound in
      let slots = slot_bytes l a f in
      let g1 = frame_group l sound (code_place l a f) back f.offset (frame_len l f) slots (omega arith)
      (slots_fit a f) in
      let g2 = code_group l sound f.args (length f.locals) (first_number f) (file_place l a f) (name_place l a f)
      (table_place l a f) (tuple_place l a f) in
      let ws1 = frame_writes l (code_place l a f) back f.offset slots in
      let ws2 = code_writes l f.args (length f.locals) (first_number f) (file_place l a f) (name_place l a f)
      (table_place l a f) (tuple_place l a f) in
      let frame = take l.frame.size (frame_object l a back f) in
      let code = take l.code.size (code_object l a f) in
      let n1 = length-frame_object a back f in
      let n2 = length-code_object a f in
      let r1 : record_at m a l.frame.size ≡ Ok frame = record_stands_first l.frame.size st.frame (omega arith) in
      let r2 : record_at m (code_place l a f) l.code.size ≡ Ok code =
      record_stands_first l.code.size st.code (omega arith) in
      let w1 : u64_in frame l.frame.code ≡ code_place l a f =
      u64_read (frame_len l f) ws1 g1 l.frame.size (omega arith) 0 _ _ refl (omega (arith, st.code.ends)) ff.code in
      let w2 : u64_in frame l.frame.back ≡ back = u64_read (frame_len l f) ws1 g1 l.frame.size
      (omega arith) 1 _ _ refl below ff.back in
      let tag : u64_in frame l.frame.code / 2 ^ l.frame.code_tag_bits * 2 ^ l.frame.code_tag_bits ≡ code_place l a f =
      ap (λ c. c / 2 ^ l.frame.code_tag_bits * 2 ^ l.frame.code_tag_bits) w1
      ∙ tag_is l.frame.code_tag_bits (code_place l a f) ff.code_tag_bits (omega arith) in
      let c0 : u32_in code l.code.argcount ≡ f.args = u32_read l.code.size ws2 g2 l.code.size (omega arith) 0 _ _ refl
      (omega (arith, is.args, is.locals)) cf.argcount in
      let c1 : u32_in code l.code.nlocals ≡ length f.locals =
      u32_read l.code.size ws2 g2 l.code.size (omega arith) 1 _ _ refl (omega (arith, is.locals)) cf.nlocals in
      let c2 : u32_in code l.code.first_line ≡ first_number f =
      u32_read l.code.size ws2 g2 l.code.size (omega arith) 2 _ _ refl (omega (arith, is.first)) cf.first_line in
      let c3 : u64_in code l.code.filename ≡ file_place l a f =
      u64_read l.code.size ws2 g2 l.code.size (omega arith) 3 _ _ refl (omega (arith, st.file.ends)) cf.filename in
      let c4 : u64_in code l.code.name ≡ name_place l a f =
      u64_read l.code.size ws2 g2 l.code.size (omega arith) 4 _ _ refl (omega (arith, st.name.ends)) cf.name in
      let c5 : u64_in code l.code.table ≡ table_place l a f =
      u64_read l.code.size ws2 g2 l.code.size (omega arith) 5 _ _ refl (omega (arith, st.table.ends)) cf.table in
      let c6 : u64_in code l.code.varnames ≡ tuple_place l a f =
      u64_read l.code.size ws2 g2 l.code.size (omega arith) 6 _ _ refl (omega (arith, st.tuple.ends)) cf.varnames in
      let few : ltb (length f.locals) (2 ^ 31) ≡ true = lt-ltb (length f.locals) (2 ^ 31) (omega (arith, is.locals)) in
      let fewer : leb (length f.locals) 65535 ≡ true = le-leb (length f.locals) 65535 is.locals in
      let names = name_bytes l a f in
      let start : start_in l (code_place l a f) + f.offset < 2 ^ 64 =
      start_below l sound (code_place l a f) f.offset (omega (arith, st.code.ends)) is.offset in
      record {
        frame = frame;
        code = code;
        read = rw (r1, tag, r2) refl;
        back_is = w2;
        entered = entry_back l sound (frame_len l f) (code_place l a f) back f.offset slots (omega arith)
            (slots_fit a f) l.frame.entry refl;
        file_is = rw c3 (text_back l sound room m (file_place l a f) None f.filename is.file st.file);
        name_is = rw c4 (text_back l sound room m (name_place l a f) None f.name is.name st.name);
        first_is = rw c2 (signed_small (first_number f) is.first ∙ is.first_is);
        offset_is = ap in_i32 (instr_back l sound (frame_len l f) (code_place l a f) back f.offset slots (omega arith)
            (slots_fit a f) l.lasti refl _ refl refl is.offset is.even start) ∙ fits_i32 f.offset is.offset;
        table_is = rw c5 (table_back l sound m (table_place l a f) (coded_lines l f) is.table st.table);
        count_is = rw c1 (rw (few, fewer) refl);
        args_is = c0;
        names_is = c6;
        tuple = take l.tuple.size (tuple_object l a f);
        tuple_is = record_stands_first l.tuple.size st.tuple (omega (arith, length-tuple_object a f));
        words = stands_write (tuple_len l f) (tuple_writes l (length f.locals) names) 1 (record {
          at = l.tuple.at;
          value = Bytes names;
        }) (tuple_group l sound (length f.locals) names (tuple_len l f) (omega arith)
            (names_fit a f)) refl st.tuple;
        slots = stands_write (frame_len l f) ws1 4 (record {
          at = l.frame.locals;
          value =
              Bytes slots;
        }) g1 refl st.frame;
        names = st.names;
        values = st.values;
      }

  pub length-frame : (a back : ℕ) (f : Frame) → length (laid_frame l t a back f) ≡ frame_size l f
  unfolding frame_size records_size
  length-frame a back f =
      let n1 = length-frame_object a back f in
      let n2 = length-code_object a f in
      let n3 = length-table_object f in
      let n4 = length-tuple_object a f in
      let n5 = length-text l sound None f.filename in
      let n6 = length-text l sound None f.name in
      let n7 = length-names (names_place l a f) f in
      let n8 = length-chain (local_size l) (λ at next v. laid_local l t at v)
      (λ at next v. length-local l sound t at v) (values_place l a f) f.locals in
      ap length (frame_flat l t a back f) ∙ simp length-append
      (simp length-aligned (rw (n1, n2, n3, n4, n5, n6, n7, n8) (omega arith)))

  pub frame_even : (f : Frame) → frame_size l f % 16 ≡ 0
  unfolding frame_size records_size
  frame_even f = omega (
    arith,
    chain_even (name_size l) (name_even l sound) f.locals,
    chain_even (local_size l) (local_even l sound) f.locals,
  )

  pub values_even : (a : ℕ) (f : Frame) → a % 16 ≡ 0 → values_place l a f % 16 ≡ 0
  values_even a f mul = omega (arith, chain_even (name_size l) (name_even l sound) f.locals)
