-- The walk along a thread's frames, member by member.
use Rattle.std.proofs.Common.{◌≡◌, ◌≢◌, ℕ, ◌+◌, ◌<◌, Bool, true, false, cond, ltb, List, [], ◌∷◌, ◌++◌, length, map}
use Rattle.std.proofs.Common.{refl, sym, ◌∙◌, ap, arith, length-append}
use Rattle.std.specs.Prelude.{Option, Some, None, Ok, Err}
use Rattle.std.proofs.lemmas.List.{map-append}
use Rattle.std.proofs.lemmas.Option.{same_Some}
use Rattle.process_memory.specs.Memory.{Memory, Fault, ◌>>=◌, byte_at}
use Rattle.process_memory.specs.Memory.Fault.{ChainLimit, FrameLimit}
use Rattle.process_memory.specs.Seen.{Seen}
use Rattle.py_builtins.specs.Consulted.{Consults}
use Rattle.process_memory.specs.Walk.{Step, walk_at}
use Rattle.process_memory.proofs.Founds.{bound, ok_same}
use Rattle.process_memory.proofs.Reading.{reading_gives, reading_here, answers_then, answers_stop}
use Rattle.process_memory.proofs.Walks.{walking_init, walking_more, walking_done, walking_full, walking_stop}
use Rattle.process_memory.proofs.Walks.{walking_lost}
use Rattle.py_fields.specs.declared.layout.Layout.{Layout}
use Rattle.py_stacks.specs.declared.asked.Asked.{Asked}
use Rattle.py_stacks.specs.declared.trace.Frame.{Frame}
use Rattle.py_stacks.specs.declared.error.StackError.{StackError}
use Rattle.py_stacks.specs.declared.error.StackError.TheVariants as stack
use Rattle.py_stacks.specs.StackError.{stack_fault}
use Rattle.py_stacks.specs.Detail.{detail_at}
use Rattle.py_stacks.specs.Member.{MemberAt}
use Rattle.py_stacks.specs.Frames.{Call, call_named, call_of, frame_limit, frame_step, frames_at, frames_cost}
use Rattle.py_stacks.specs.Frames.{is_hidden, member_cost, member_limit, members_at, part_by, plain_at, plain_by}
use Rattle.py_stacks.specs.Frames.{records_at, shown, shown_by, step_by, step_of_result, step_part, visible}
use Rattle.py_stacks.specs.Frames.{with_detail, with_mark}
use Rattle.py_stacks.specs.Gathering.{Adds, Gathering, mark_call, mark_last}
use Rattle.py_stacks.proofs.Marking.{length-mark_last, map-mark_last, shown-kept, shown-last, shown-skipped}
use Rattle.py_stacks.proofs.Parts.{plain_is}

-- what a step of the walk is
pub record IsStep (q : Asked) (l : Layout) (m : Memory) (kept a : ℕ) (x : Step ℕ (Option Call)) : Type 0 where
  pub member : MemberAt
  pub read : records_at l m a ≡ Ok member
  pub part : part_by q l m kept member (plain_by l m member) ≡ Ok x.part
  pub is : step_part l kept member x.part ≡ x

pub step_parts : (q : Asked) (l : Layout) (m : Memory) (kept a : ℕ) (x : Step ℕ (Option Call))
    → frame_step q l m kept a ≡ Ok x → IsStep q l m kept a x
unfolding frame_step
step_parts q l m kept a x e =
    let one = bound (records_at l m a) (step_by q l m kept) x e in
    let plain = bound (plain_at l m one.0) _ x one.2 in
    let same : plain_by l m one.0 ≡ plain.0 = ok_same _ _ (sym (plain_is l m one.0) ∙ plain.1) in
    let two = bound (part_by q l m kept one.0 plain.0) (λ p. Ok (step_part l kept one.0 p)) x plain.2 in
    let last : step_part l kept one.0 two.0 ≡ x = ok_same _ x two.2 in
    let part : two.0 ≡ x.part = ap (λ (y : Step ℕ (Option Call)). y.part) last in
    record {
      member = one.0;
      read = one.1;
      part = ap (part_by q l m kept one.0) same ∙ two.1 ∙ ap Ok part;
      is = ap (step_part l kept one.0) (sym part) ∙ last;
    }

-- no frame is marked by its own records
visible_unmarked : (file name : Option (List ℕ)) (entered : Bool) (c : Call) → visible file name entered ≡ Some c
    → c.is_shim_entry ≡ false
unfolding visible
visible_unmarked None name entered c = λ e. absurd (cc)
visible_unmarked (Some file) None entered c = λ e. absurd (cc)
visible_unmarked (Some file) (Some name) entered c =
    elim (is_hidden file) as (λ t. cond t None (Some (call_named file name entered)) ≡ Some c → c.is_shim_entry ≡ false)
    [ true ↦ λ e. absurd (cc) | false ↦ λ e. ap (λ (h : Call). h.is_shim_entry) (sym (same_Some (call_named file name entered) c e)) ]

part_unmarked : (q : Asked) (l : Layout) (m : Memory) (kept : ℕ) (r : MemberAt) (p : Option Call) (c : Call)
    → ((d : Call) → p ≡ Some d → d.is_shim_entry ≡ false) → part_by q l m kept r p ≡ Ok (Some c)
    → c.is_shim_entry ≡ false
part_unmarked q l m kept r None c plain e = absurd (cc)
part_unmarked q l m kept r (Some d) c plain e = more (ltb kept frame_limit) e
  where
    more : (t : Bool)
        → cond t (detail_at q l m r >>= (λ x. Ok (Some (with_detail d x)))) (Err FrameLimit) ≡ Ok (Some c)
        → c.is_shim_entry ≡ false
    more true e =
        let x = bound (detail_at q l m r) (λ y. Ok (Some (with_detail d y))) (Some c) e in
        let same = same_Some (with_detail d x.0) c (ok_same _ _ x.2) in
        ap (λ (h : Call). h.is_shim_entry) (sym same) ∙ plain d refl
    more false e = absurd (cc)

step_unmarked : (q : Asked) (l : Layout) (m : Memory) (kept a : ℕ) (x : Step ℕ (Option Call)) (c : Call)
    → frame_step q l m kept a ≡ Ok x → x.part ≡ Some c → c.is_shim_entry ≡ false
step_unmarked q l m kept a x c e is =
    let step = step_parts q l m kept a x e in
    part_unmarked q l m kept step.member (plain_by l m step.member) c (λ d p. visible_unmarked _ _ _ d p) (step.part ∙ ap Ok is)

pub gather_init : (q : Asked) (l : Layout) (first : ℕ) (s : Seen) → Gathering q l first s s [] 0 first
unfolding shown_by
gather_init q l first s = record {
  members = [];
  walking = walking_init ChainLimit (frame_step q l) (member_cost q l) member_limit 0 first s;
  held = refl;
}

module _ {q : Asked} {l : Layout} {first : ℕ} {s0 s1 : Seen} {frames : List Frame} {met at : ℕ} where
  -- one member more
  pub gather_more : {s2 : Seen} {back : ℕ} {new : List Frame} (part : Option Frame)
      → Gathering q l first s0 s1 frames met at → at ≢ 0 → met < member_limit
      → Consults l stack_fault (member_cost q l (byte_at s1.pieces) (length frames) at) s1 s2 (λ m. frame_step q l m (length frames) at) (step_of_result (length frames) (Ok (back, part)))
      → Adds frames part new → Gathering q l first s0 s2 new (met + 1) back
  gather_more {s2} {back} {new} None g some below r adds =
      let walking = walking_more g.walking some below r in
      let same : length new ≡ length frames = ap length adds ∙ length-mark_last frames in
      record {
        members = g.members ++ None ∷ [];
        walking = rw same walking;
        held = ap (map call_of) adds ∙ map-mark_last frames ∙ ap mark_call g.held ∙ sym (shown-last g.members) ∙ sym (shown-skipped g.members);
      }
  gather_more {s2} {back} {new} (Some f) g some below r adds =
      let walking = walking_more g.walking some below r in
      let same : length new ≡ length frames + 1 = ap length adds ∙ length-append frames (f ∷ []) in
      let unmarked : f.is_shim_entry ≡ false = step_unmarked q l (byte_at s1.pieces) (length frames) at _ (call_of f) (reading_here r).is refl in
      record {
        members = g.members ++ Some (call_of f) ∷ [];
        walking = rw same walking;
        held = ap (map call_of) adds ∙ map-append call_of frames (f ∷ []) ∙ ap (λ fs. fs ++ call_of f ∷ []) g.held ∙ ap (λ b. shown_by false g.members ++ with_mark (call_of f) b ∷ []) unmarked ∙ sym (shown-kept g.members (call_of f));
      }

frames_end : {E : Type 0} {fault : E → Option Fault} (q : Asked) (l : Layout) (first : ℕ) {n : ℕ} {s0 s1 : Seen} (members : List (Option Call))
    → Consults {T = List (Option Call)} {E = E} l fault n s0 s1 (λ m. walk_at ChainLimit (frame_step q l m) member_limit 0 first) (Ok members)
    → Consults l fault n s0 s1 (λ m. frames_at q l m first) (Ok (shown members))
unfolding frames_at members_at
frames_end q l first {n = n} members r = reading_gives n _ r (omega arith) (λ m a. answers_then (λ ms. Ok (shown ms)) a (record { is = refl }))

frames_stop : {E : Type 0} {fault : E → Option Fault} (q : Asked) (l : Layout) (first : ℕ) {n : ℕ} {s0 s1 : Seen} (e : E)
    → Consults {T = List (Option Call)} {E = E} l fault n s0 s1 (λ m. walk_at ChainLimit (frame_step q l m) member_limit 0 first) (Err e)
    → Consults l fault n s0 s1 (λ m. frames_at q l m first) (Err e)
unfolding frames_at members_at
frames_stop {fault = fault} q l first {n = n} e r = reading_gives n _ r (omega arith) (λ m a. answers_stop fault e (λ ms. Ok (shown ms)) a refl)

module _ {q : Asked} {l : Layout} {first : ℕ} {s0 s1 : Seen} {frames : List Frame} {met at : ℕ} where
  -- the chain is at its end
  pub gather_done : {new : List Frame} → Gathering q l first s0 s1 frames met at → at ≡ 0 → new ≡ mark_last frames
      → Consults l stack_fault (frames_cost q l (byte_at s0.pieces) first) s0 s1 (λ m. frames_at q l m first) (Ok (map call_of new))
  unfolding frames_cost
  gather_done {new = new} g zero_at adds =
      let is : map call_of new ≡ shown g.members = ap (map call_of) adds ∙ map-mark_last frames ∙ ap mark_call g.held ∙ sym (shown-last g.members) in
      rw is (frames_end q l first g.members (walking_done g.walking zero_at))

  -- it goes on past the limit of members
  pub gather_full : Gathering q l first s0 s1 frames met at → at ≢ 0 → met ≡ member_limit
      → Consults l stack_fault (frames_cost q l (byte_at s0.pieces) first) s0 s1 (λ m. frames_at q l m first) (Err stack.ChainLimit)
  unfolding frames_cost
  gather_full g some full = frames_stop q l first stack.ChainLimit (walking_full stack.ChainLimit g.walking some full refl)

  -- a member can't be read, or no more may be kept, or memory is wanting
  pub gather_stop : {s2 : Seen} {e : StackError} (e' : StackError) → Gathering q l first s0 s1 frames met at → at ≢ 0
      → met < member_limit
      → Consults {T = Step ℕ (Option Call)} l stack_fault (member_cost q l (byte_at s1.pieces) (length frames) at) s1 s2 (λ m. frame_step q l m (length frames) at) (Err e)
      → stack_fault e' ≡ stack_fault e
      → Consults l stack_fault (frames_cost q l (byte_at s0.pieces) first) s0 s2 (λ m. frames_at q l m first) (Err e')
  unfolding frames_cost
  gather_stop e' g some below r same = frames_stop q l first e' (walking_stop e' g.walking some below r same)

  -- memory for a frame is wanting
  pub gather_lost : {s2 : Seen} {x : Step ℕ (Option Call)} (e' : StackError) → Gathering q l first s0 s1 frames met at
      → at ≢ 0 → met < member_limit
      → Consults {E = StackError} l stack_fault (member_cost q l (byte_at s1.pieces) (length frames) at) s1 s2 (λ m. frame_step q l m (length frames) at) (Ok x)
      → stack_fault e' ≡ None
      → Consults l stack_fault (frames_cost q l (byte_at s0.pieces) first) s0 s2 (λ m. frames_at q l m first) (Err e')
  unfolding frames_cost
  gather_lost e' g some below r same = frames_stop q l first e' (walking_lost {step = frame_step q l} e' (walking_more g.walking some below r) same)
