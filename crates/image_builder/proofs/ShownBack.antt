-- What a program tells where it stands is what is shown of it, addresses of locals aside.
use Rattle.std.proofs.Common.{◌≡◌, ℕ, suc, ◌+◌, Bool, true, false, eqb, List, [], ◌∷◌, map, refl, sym, ap, ap₂, ◌∙◌}
use Rattle.std.proofs.Common.{arith}
use Rattle.std.specs.Prelude.{◌↔◌, Option, Some, None, option_map, slice_get}
use Rattle.std.proofs.lemmas.Bool.{eq-eqb, eqb-true}
use Rattle.std.proofs.lemmas.Option.{same_Some}
use Rattle.py_fields.specs.declared.layout.Layout.{Layout}
use Rattle.py_stacks.specs.declared.config.Config.{Config}
use Rattle.py_stacks.specs.Asking.{asked_of}
use Rattle.py_stacks.specs.Frames.{Call, begins_hidden, shown_by, with_mark}
use Rattle.py_stacks.specs.Threads.{Trace}
use Rattle.py_stacks.specs.Values.{value_width}
use Rattle.py_process.specs.Reports.{bare_call, bare_trace}
use Rattle.memory_builder.specs.Chains.{values_at}
use Rattle.memory_builder.specs.Laid.{first_place, owner_id}
use Rattle.memory_builder.specs.Program.{Frame, Local, Program, Thread}
use Rattle.memory_builder.specs.Sizes.{frame_size, local_size, thread_size}
use Rattle.memory_builder.specs.Told.{asked_told, call_told, locals_told, program_told, trace_told}
use Rattle.memory_builder.specs.Threads.{frames_place}
use Rattle.image_builder.specs.Shown.{is_none_left, is_owner, locals_shown, shown_frame, shown_frames, shown_locals}
use Rattle.image_builder.specs.Shown.{shown_thread, shown_threads, unplaced_call, unplaced_local, unplaced_trace}

cons_same : {A : Type 0} (x y : A) (xs ys : List A) → x ≡ y → xs ≡ ys → x ∷ xs ≡ y ∷ ys
cons_same x y xs ys p q = λ i. p i ∷ q i

-- ---- frames

locals_unplaced : (width : ℕ) (l : Layout) (args index a : ℕ) (vs : List Local)
    → map unplaced_local (locals_told width l args index a vs) ≡ locals_shown width args index vs
locals_unplaced width l args index a [] = refl
locals_unplaced width l args index a (v ∷ vs) =
    cons_same _ _ _ _ refl (locals_unplaced width l args (index + 1) (a + local_size l v) vs)

asked_unplaced : (b : Bool) (width : ℕ) (l : Layout) (a : ℕ) (f : Frame)
    → option_map (map unplaced_local) (asked_told b width l a f) ≡ shown_locals b width f
asked_unplaced false width l a f = refl
asked_unplaced true width l a f = ap Some (locals_unplaced width l f.args 0 _ f.locals)

module _ (c : Config) (l : Layout) where
  abbrev told : ℕ → Frame → Call
  told a f = call_told (asked_of c) (value_width c.dump_locals) l a f

  abbrev members : ℕ → List Frame → List (Option Call)
  members a fs = values_at (frame_size l) (λ at f. Some (told at f)) a fs

  frame_unplaced : (a : ℕ) (is_last : Bool) (f : Frame) → unplaced_call (with_mark (told a f) is_last)
      ≡ shown_frame c is_last f
  frame_unplaced a is_last f = ap (λ ls. record (shown_frame c is_last f) { locals = ls })
      (asked_unplaced (asked_of c).locals (value_width c.dump_locals) l a f)

  none_hidden : (a : ℕ) (fs : List Frame) → begins_hidden true (members a fs) ≡ is_none_left fs
  none_hidden a [] = refl
  none_hidden a (f ∷ fs) = refl

  frames_unplaced : (a : ℕ) (fs : List Frame) → map unplaced_call (shown_by true (members a fs)) ≡ shown_frames c fs
  unfolding shown_by
  frames_unplaced a [] = refl
  frames_unplaced a (f ∷ fs) =
      let next = a + frame_size l f in
      cons_same _ _ _ _ (frame_unplaced a (begins_hidden true (members next fs)) f
      ∙ ap (λ b. shown_frame c b f) (none_hidden next fs)) (frames_unplaced next fs)

  -- ---- threads

  thread_unplaced : (holder_id a : ℕ) (owns : Bool) (t : Thread) → eqb t.id holder_id ≡ owns
      → unplaced_trace (trace_told (asked_of c) (value_width c.dump_locals) holder_id l a t) ≡ shown_thread c l owns t
  thread_unplaced holder_id a owns t mark =
      ap₂ (λ b fs. record (shown_thread c l owns t) { owns_gil = b; frames = fs }) mark
      (frames_unplaced (frames_place l a) t.frames)

  threads_unplaced : (holder_id : ℕ) (owner : Option ℕ) (a index : ℕ) (ts : List Thread)
      → ((k : ℕ) (t : Thread) → slice_get ts k ≡ Some t → eqb t.id holder_id ≡ is_owner owner (index + k))
      → map unplaced_trace (values_at (thread_size l)
      (trace_told (asked_of c) (value_width c.dump_locals) holder_id l) a ts) ≡ shown_threads c l owner index ts
  threads_unplaced holder_id owner a index [] marks = refl
  threads_unplaced holder_id owner a index (t ∷ ts) marks =
      let here : index + 0 ≡ index = omega arith in
      cons_same _ _ _ _ (thread_unplaced holder_id a (is_owner owner index) t
      (marks 0 t refl ∙ ap (is_owner owner) here))
      (threads_unplaced holder_id owner (a + thread_size l t) (index + 1) ts (λ k u e. marks (suc k) u e
      ∙ ap (is_owner owner) (behind k)))
    where
      behind : (k : ℕ) → index + suc k ≡ index + 1 + k
      behind k = omega arith

-- ---- the mark of the owner

same_tests : (a b x y : ℕ) → (a ≡ b → x ≡ y) → (x ≡ y → a ≡ b) → eqb a b ≡ eqb x y
same_tests a b x y to from = by (eqb a b) (eqb x y) refl refl
  where
    by : (s t : Bool) → eqb a b ≡ s → eqb x y ≡ t → s ≡ t
    by true true e f = refl
    by false false e f = refl
    by true false e f = sym (eq-eqb x y (to (eqb-true a b e))) ∙ f
    by false true e f = sym e ∙ eq-eqb a b (from (eqb-true x y f))

never_same : (a b : ℕ) → (a ≡ b → ⊥) → eqb a b ≡ false
never_same a b none = by (eqb a b) refl
  where
    by : (s : Bool) → eqb a b ≡ s → s ≡ false
    by false e = refl
    by true e = absurd (none (eqb-true a b e))

marked : (a b k : ℕ) (owner : Option ℕ) → (a ≡ b) ↔ (owner ≡ Some k) → eqb a b ≡ is_owner owner k
marked a b k None alone = never_same a b (λ e. let no_owner : None ≡ Some k = alone.0 e in cc)
marked a b k (Some o) alone = same_tests a b o k (λ e. same_Some o k (alone.0 e)) (λ e. alone.1 (ap Some e))

-- ---- the program

pub program_unplaced : (c : Config) (l : Layout) (a : ℕ) (p : Program)
    → ((k : ℕ) (t : Thread) → slice_get p.threads k ≡ Some t → (t.id ≡ owner_id p) ↔ (p.owner ≡ Some k))
    → map unplaced_trace (program_told c l a (owner_id p) p) ≡ shown_threads c l p.owner 0 p.threads
program_unplaced c l a p alone = threads_unplaced c l (owner_id p) p.owner (first_place l a) 0 p.threads
    (λ k t e. marked t.id (owner_id p) k p.owner (alone k t e) ∙ ap (is_owner p.owner) (from_none k))
  where
    from_none : (k : ℕ) → k ≡ 0 + k
    from_none k = omega arith

-- ---- names and marks

calls_bare : (cs : List Call) → map bare_call (map unplaced_call cs) ≡ map bare_call cs
calls_bare [] = refl
calls_bare (c ∷ cs) = cons_same _ _ _ _ refl (calls_bare cs)

pub traces_bare : (ts : List Trace) → map bare_trace (map unplaced_trace ts) ≡ map bare_trace ts
traces_bare [] = refl
traces_bare (t ∷ ts) = cons_same _ _ _ _ (ap (λ cs. (t.thread_id, cs)) (calls_bare t.frames)) (traces_bare ts)
