-- The locals of a program that stands in memory show as the program's values do.
use Rattle.std.proofs.Common.{◌≡◌, ◌≢◌, ℕ, ◌+◌, ◌%◌, ◌^◌, Bool, true, false, List, [], ◌∷◌, map, refl, ap, ap₂, ◌∙◌}
use Rattle.std.proofs.Common.{arith, ltb}
use Rattle.std.specs.Prelude.{Some, None, Option, option_map, codes}
use Rattle.std.specs.List.{AllByRecursion}
use Rattle.process_memory.specs.Memory.{Memory}
use Rattle.py_fields.specs.Sound.{IsSound}
use Rattle.py_fields.specs.declared.layout.Layout.{Layout}
use Rattle.py_stacks.specs.declared.asked.Asked.{Asked}
use Rattle.py_stacks.specs.declared.config.Config.{Config}
use Rattle.py_stacks.specs.Asking.{asked_of}
use Rattle.py_stacks.specs.Frames.{Call, begins_hidden, shown_by, with_mark}
use Rattle.py_stacks.specs.Stacks.{by_holder}
use Rattle.py_stacks.specs.Values.{by_value, text_or_mark, local_value_at, value_text, value_width, with_value}
use Rattle.py_stacks.specs.Values.{with_values}
use Rattle.py_objects.specs.Nodes.{values_in}
use Rattle.py_objects.specs.Shows.{show_at}
use Rattle.object_builder.specs.Placing.{Stands}
use Rattle.object_builder.specs.Room.{HasRoom}
use Rattle.memory_builder.specs.Program.{Frame, Local, Program, Thread}
use Rattle.memory_builder.specs.Chains.{AllAt, head_of, laid_chain, values_at}
use Rattle.memory_builder.specs.Values.{laid_all, laid_local}
use Rattle.memory_builder.specs.Validity.{IsValidHeld}
use Rattle.memory_builder.specs.Sizes.{frame_size, local_size, thread_size, type_size}
use Rattle.memory_builder.specs.declared.values.TypesAt.{TypesAt}
use Rattle.memory_builder.specs.Frames.{laid_frame, values_place}
use Rattle.memory_builder.proofs.Plain.{IsFrame, IsThread, asked_for, call_for, calls_for, locals_for, stacks_for}
use Rattle.memory_builder.proofs.Plain.{trace_for, traces_for}
use Rattle.memory_builder.specs.Told.{asked_told, call_told, calls_told, locals_told, program_told, told_text}
use Rattle.memory_builder.specs.Told.{trace_told}
use Rattle.object_builder.proofs.Placing.{stands_left, stands_right}
use Rattle.memory_builder.proofs.ValuesBack.{length-local}
use Rattle.py_stacks.specs.Frames.{back_of}
use Rattle.memory_builder.specs.Threads.{frames_place, laid_thread, laid_threads}
use Rattle.memory_builder.specs.Laid.{first_place, laid_type, three_types, types_at, types_place}
use Rattle.memory_builder.proofs.ProgramBack.{StandProgram, gil_even, length-type}
use Rattle.memory_builder.proofs.Chains.{chain_back}
use Rattle.memory_builder.proofs.FramesBack.{frame_even, length-frame, member_back}
use Rattle.memory_builder.proofs.DetailsBack.{frame_back}
use Rattle.memory_builder.proofs.ThreadsBack.{cframe_even, frames_stand, length-thread, thread_even}
use Rattle.memory_builder.proofs.NodesBack.{HasTypes, type_back, value_back}
use Rattle.memory_builder.proofs.SameValues.{value_same}

-- ---- marks and values

shown_values : (texts : ℕ → List ℕ) (last : Bool) (ms : List (Option Call))
    → map (with_values texts) (shown_by last ms) ≡ shown_by last (map (option_map (with_values texts)) ms)
unfolding shown_by
shown_values texts last [] = refl
shown_values texts last (None ∷ ms) = shown_values texts last ms
shown_values texts last (Some f ∷ ms) = ap₂ (λ mark rest. with_mark (with_values texts f) mark
    ∷ rest) (hidden last ms) (shown_values texts last ms)
  where
    hidden : (last : Bool) (ms : List (Option Call)) → begins_hidden last ms
        ≡ begins_hidden last (map (option_map (with_values texts)) ms)
    hidden last [] = refl
    hidden last (None ∷ ms) = refl
    hidden last (Some f ∷ ms) = refl

module _ (l : Layout) (sound : IsSound l) (room : HasRoom l) (m : Memory) (t : TypesAt) (has : HasTypes l m t) where
  -- each local shows as its value
  locals_tell : (width args index a : ℕ) (vs : List Local) → AllByRecursion (λ (v : Local). IsValidHeld v.value) vs
      → Stands m a (laid_all (local_size l) (laid_local l t) a vs)
      → map (with_value (value_text l m width)) (locals_for l args index a vs) ≡ locals_told width l args index a vs
  unfolding laid_chain laid_local value_text local_value_at
  locals_tell width args index a [] good s = refl
  locals_tell width args index a (v ∷ vs) good s =
      let to = a + local_size l v in
      let here : Stands m a (laid_local l t a v) = stands_left (laid_local l t a v) _ s in
      let rest : Stands m to (laid_all (local_size l) (laid_local l t) to vs) =
      rw (length-local l sound t a v) at (stands_right (laid_local l t a v) _ s) in
      let same = value_same l m 256 width a v.value (value_back l sound room m t has a v.value good.0 here) in
      let text : text_or_mark (show_at (values_in l m) 256 width a 0).0 ≡ told_text width v.value =
      ap (λ c. text_or_mark (c 0).0) same in
      ap₂ (λ x xs. record { name = v.name; addr = a; arg = ltb index args; repr = Some x }
      ∷ xs) text (locals_tell width args (index + 1) to vs good.1 rest)

  asked_tell : (asked : Bool) (width a : ℕ) (f : Frame) → IsFrame l f
      → Stands m (values_place l a f) (laid_all (local_size l) (laid_local l t) (values_place l a f) f.locals)
      → option_map (map (with_value (value_text l m width))) (asked_for asked l a f) ≡ asked_told asked width l a f
  asked_tell false width a f is s = refl
  asked_tell true width a f is s = ap Some (locals_tell width f.args 0 (values_place l a f) f.locals is.values s)

  call_tells : (q : Asked) (width a : ℕ) (f : Frame) → IsFrame l f
      → Stands m (values_place l a f) (laid_all (local_size l) (laid_local l t) (values_place l a f) f.locals)
      → with_values (value_text l m width) (call_for q l a f) ≡ call_told q width l a f
  call_tells q width a f is s = ap (λ locals. record (call_for q l a f) { locals = locals })
      (asked_tell q.locals width a f is s)

  calls_tell : (q : Asked) (width a : ℕ) (fs : List Frame) →
      AllAt (frame_size l) (λ at f. with_values (value_text l m width) (call_for q l at f) ≡ call_told q width l at f) a
      fs
      → map (option_map (with_values (value_text l m width)))
      (values_at (frame_size l) (λ at f. Some (call_for q l at f)) a fs)
      ≡ values_at (frame_size l) (λ at f. Some (call_told q width l at f)) a fs
  calls_tell q width a [] h = refl
  calls_tell q width a (f ∷ fs) h = ap₂ (λ c cs. Some c ∷ cs) h.0 (calls_tell q width (a + frame_size l f) fs h.1)

  frames_tell : (q : Asked) (width a : ℕ) (fs : List Frame) → a ≢ 0 → a % 16 ≡ 0 → AllByRecursion (IsFrame l) fs
      → Stands m a (laid_chain (frame_size l) (laid_frame l t) a fs)
      → map (with_values (value_text l m width)) (calls_for q l a fs) ≡ calls_told q width l a fs
  frames_tell q width a fs some mul all s =
      let each = chain_back (frame_size l) (laid_frame l t) (length-frame l sound t) m (IsFrame l)
      (λ at f. with_values (value_text l m width) (call_for q l at f) ≡ call_told q width l at f) (back_of l m)
      (frame_even l sound t)
      (λ at to f some mul below is s. let h = member_back l sound t room m at to f mul below is s in
      ((frame_back l sound room t m at to f some mul is h q).0, call_tells q width at f is h.values))
      a fs some mul all s in
      shown_values (value_text l m width) true (values_at (frame_size l) (λ at f. Some (call_for q l at f)) a fs)
      ∙ ap (shown_by true) (calls_tell q width a fs each.1)

  threads_tell : (q : Asked) (width owner interp a : ℕ) (ts : List Thread) → a ≢ 0 → a % 16 ≡ 0
      → AllByRecursion (IsThread l) ts → Stands m a (laid_chain (thread_size l) (laid_thread l t interp) a ts)
      → map (by_value (value_text l m width)) (map (by_holder owner) (traces_for q l a ts))
      ≡ values_at (thread_size l) (trace_told q width owner l) a ts
  unfolding laid_chain
  threads_tell q width owner interp a [] some mul all s = refl
  threads_tell q width owner interp a (x ∷ xs) some mul all s =
      let to = a + thread_size l x in
      let next = head_of to xs in
      let here = stands_left (laid_thread l t interp a next x) _ s in
      let rest : Stands m to (laid_chain (thread_size l) (laid_thread l t interp) to xs) =
      rw (length-thread l sound t interp a next x) at (stands_right (laid_thread l t interp a next x) _ s) in
      let frames = frames_tell q width (frames_place l a) x.frames (omega arith) (omega (
        arith,
        cframe_even l.cframe,
      )) all.0.frames (frames_stand l sound t m interp a next x here) in
      let others = threads_tell q width owner interp to xs (omega arith) (omega (
        arith,
        thread_even l sound t x,
      )) all.1 rest in
      ap₂ (λ fs rest. (record (by_holder owner (trace_for q l a x)) { frames = fs }) ∷ rest) frames others

  -- what is shown of a program in memory is what it tells
  pub program_tells : (c : Config) (owner a : ℕ) (p : Program) → a ≢ 0 → first_place l a % 16 ≡ 0
      → AllByRecursion (IsThread l) p.threads → Stands m (first_place l a)
      (laid_threads l t a (first_place l a) p.threads)
      → map (by_value (value_text l m (value_width c.dump_locals))) (stacks_for (asked_of c) l a owner p)
      ≡ program_told c l a owner p
  unfolding laid_threads
  program_tells c owner a p some mul all s = threads_tell (asked_of c) (value_width c.dump_locals) owner a
      (first_place l a) p.threads (omega arith) mul all s

-- the types of a program
pub types_back : (l : Layout) (sound : IsSound l) (m : Memory) (a : ℕ) → Stands m a (three_types l (types_at l a))
    → HasTypes l m (types_at l a)
unfolding three_types
types_back l sound m a s =
    let t1 = laid_type l a (2 ^ 24) (codes "int") in
    let t2 = laid_type l (a + type_size l) (2 ^ 28) (codes "str") in
    let n1 = length-type l sound a (2 ^ 24) (codes "int") (omega arith) in
    let n2 = length-type l sound (a + type_size l) (2 ^ 28) (codes "str") (omega arith) in
    let s2 = rw n1 at (stands_right t1 _ s) in
    let s3 = rw n2 at (stands_right t2 _ s2) in
    record {
      integer = type_back l sound m a (2 ^ 24) (codes "int") (omega arith) (omega arith) (stands_left t1 _ s);
      text = type_back l sound m (a + type_size l) (2 ^ 28) (codes "str") (omega arith) (omega arith)
          (stands_left t2 _ s2);
      list = type_back l sound m (a + type_size l + type_size l) (2 ^ 25) (codes "list") (omega arith) (omega arith) s3;
    }

-- a program that stands in memory shows what it tells
pub program_shows : (l : Layout) (sound : IsSound l) (room : HasRoom l) (m : Memory) (a : ℕ) (p : Program) → a ≢ 0
    → a % 16 ≡ 0 → AllByRecursion (IsThread l) p.threads → StandProgram l sound m a p → (c : Config) (holder_id : ℕ)
    → map (by_value (value_text l m (value_width c.dump_locals))) (stacks_for (asked_of c) l a holder_id p)
    ≡ program_told c l a holder_id p
program_shows l sound room m a p some mul threads st c holder_id =
    program_tells l sound room m (types_at l (types_place l a))
    (types_back l sound m (types_place l a) st.types) c holder_id a p some (omega (
      arith,
      gil_even l sound l.gil,
    )) threads st.threads
