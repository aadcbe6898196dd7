-- What a frame that was laid shows, and the frames of a chain.
use Rattle.std.proofs.Common.{◌≡◌, ◌≢◌, ℕ, suc, ◌+◌, ◌*◌, ◌%◌, ◌≤◌, Bool, true, false, List, [], ◌∷◌, length, refl, ap}
use Rattle.std.proofs.Common.{arith}
use Rattle.std.specs.Prelude.{Some, Ok}
use Rattle.std.specs.List.{AllByRecursion}
use Rattle.process_memory.specs.Memory.{Memory}
use Rattle.py_fields.specs.Sound.{IsSound}
use Rattle.py_fields.specs.declared.layout.Layout.{Layout}
use Rattle.py_stacks.specs.declared.asked.Asked.{Asked}
use Rattle.py_stacks.specs.declared.asked.LineNo.{LineNo}
use Rattle.py_stacks.specs.declared.asked.LineNo.TheVariants.{NoLine, First, LastInstruction}
use Rattle.py_stacks.specs.Member.{MemberAt}
use Rattle.py_stacks.specs.Detail.{detail_at}
use Rattle.py_stacks.specs.Lines.{line_at, line_by, line_in}
use Rattle.py_stacks.specs.Locals.{asked_locals, locals_at, names_tuple_of}
use Rattle.py_stacks.specs.Frames.{AreFrames, back_of, call_named, plain_by, shown_at, shown_by, visible}
use Rattle.object_builder.specs.Placing.{Stands}
use Rattle.object_builder.specs.Room.{HasRoom}
use Rattle.memory_builder.specs.Program.{Frame}
use Rattle.memory_builder.specs.Chains.{head_of, laid_chain, addresses_from, values_at}
use Rattle.memory_builder.specs.Values.{address_array}
use Rattle.memory_builder.specs.Sizes.{frame_size, local_size, name_size}
use Rattle.memory_builder.specs.Frames.{code_place, laid_frame, tuple_place, values_place, names_place}
use Rattle.memory_builder.specs.Told.{line_told}
use Rattle.memory_builder.specs.declared.values.TypesAt.{TypesAt}
use Rattle.memory_builder.proofs.Plain.{IsFrame, asked_for, call_for, calls_for, locals_for}
use Rattle.memory_builder.proofs.Chains.{chain_back, each_value, length-places}
use Rattle.memory_builder.proofs.FramesBack.{IsMember, frame_even, length-frame, member_back, values_even}
use Rattle.memory_builder.proofs.LocalsBack.{locals_back}

module _ (l : Layout) (sound : IsSound l) (room : HasRoom l) (t : TypesAt) (m : Memory) where
  module _ (a back : ℕ) (f : Frame) (some : a ≢ 0) (mul : a % 16 ≡ 0) (is : IsFrame l f)
      (h : IsMember l t m a back f) where
    abbrev member : MemberAt
    member = record { frame_at = a; frame = h.frame; code_at = code_place l a f; code = h.code }

    line_back : (lineno : LineNo) → line_at lineno l m member ≡ Ok (line_told lineno f)
    unfolding line_at line_by line_in
    line_back NoLine = refl
    line_back First = ap Ok h.first_is
    line_back LastInstruction = rw (h.table_is, h.first_is, h.offset_is) (ap Ok is.line)

    locals_is : locals_at l m member ≡ Ok (locals_for l f.args 0 (values_place l a f) f.locals)
    unfolding locals_at
    locals_is =
        let at : names_tuple_of l member ≡ tuple_place l a f = h.names_is in
        let first : (x : ℕ) → x ≡ x + 8 * 0 = λ x. omega arith in
        let words : Stands m (names_tuple_of l member + l.tuple.at + 8 * 0)
        (address_array (addresses_from (name_size l) (names_place l a f) f.locals)) =
        rw at (rw (first (tuple_place l a f + l.tuple.at)) at h.words) in
        let slots : Stands m (a + l.frame.locals + 8 * 0) (address_array
        (addresses_from (local_size l) (values_place l a f) f.locals)) =
        rw (first (a + l.frame.locals)) at h.slots in
        let all = locals_back l sound room t m member f.args h.args_is f.locals 0 (names_place l a f)
        (values_place l a f) (omega arith) (values_even l sound t a f mul) is.names words slots h.names
        h.values in
        rw (h.count_is, at, h.tuple_is) all

    asked_back : (asked : Bool) → asked_locals asked l m member ≡ Ok (asked_for asked l a f)
    asked_back false = refl
    asked_back true = rw locals_is refl

    plain_back : plain_by l m member ≡ Some (call_named f.filename f.name true)
    unfolding visible
    plain_back = rw (h.file_is, h.name_is, h.entered, is.shown) refl

    pub frame_back : (q : Asked) → (back_of l m a ≡ Ok back) × (shown_at q l m a ≡ Ok (Some (call_for q l a f)))
    unfolding back_of shown_at detail_at
    frame_back q = (
      rw (h.read, h.back_is) refl,
      rw (h.read, plain_back, line_back q.lineno, asked_back q.locals) refl,
    )

  -- ---- the frames of a thread

  length-shown : (q : Asked) (last : Bool) (a : ℕ) (fs : List Frame)
      → length (shown_by last (values_at (frame_size l) (λ at f. Some (call_for q l at f)) a fs)) ≡ length fs
  unfolding shown_by
  length-shown q last a [] = refl
  length-shown q last a (f ∷ fs) = ap suc (length-shown q last (a + frame_size l f) fs)

  pub frames_back : (q : Asked) (a : ℕ) (fs : List Frame) → a ≢ 0 → a % 16 ≡ 0 → length fs ≤ 4096
      → AllByRecursion (IsFrame l) fs
      → Stands m a (laid_chain (frame_size l) (laid_frame l t) a fs)
      → AreFrames q l m (head_of a fs) (calls_for q l a fs)
  frames_back q a fs some mul few all s =
      let size = frame_size l in
      let both = chain_back size (laid_frame l t) (length-frame l sound t) m (IsFrame l)
      (λ at f. shown_at q l m at ≡ Ok (Some (call_for q l at f))) (back_of l m) (frame_even l sound t)
      (λ at to f some mul below is s. frame_back at to f some mul is
      (member_back l sound t room m at to f mul below is s) q)
      a fs some mul all s in
      record {
        members = addresses_from size a fs;
        chain = both.0;
        parts = values_at size (λ at f. Some (call_for q l at f)) a fs;
        each = each_value size (shown_at q l m) (λ at f. Some (call_for q l at f)) a fs both.1;
        shows = refl;
        met = omega (arith, length-places size (λ at x. at) a fs);
        kept = omega (arith, length-shown q true a fs);
      }
