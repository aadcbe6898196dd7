-- What the walk along a thread's frames says in the subject's own words: the whole chain, and the first fault.
use Rattle.std.proofs.Common.{◌≡◌, ℕ, zero, suc, ◌+◌, ◌<◌, ◌≤◌, Bool, true, false, cond, ltb, List, [], ◌∷◌, length}
use Rattle.std.proofs.Common.{refl, sym, ◌∙◌, ap, arith}
use Rattle.std.specs.Prelude.{Option, Some, None, Ok, Err}
use Rattle.std.proofs.lemmas.Bool.Decides.{nat_tests}
use Rattle.process_memory.specs.Memory.{Memory, Found, ◌>>=◌}
use Rattle.process_memory.specs.Memory.Fault.{ChainLimit, FrameLimit}
use Rattle.process_memory.specs.Walk.{Step, walk_at, first_fault, fault_in}
use Rattle.process_memory.proofs.Founds.{bound, ok_same}
use Rattle.process_memory.proofs.Walks.{walk_chain, walk_first_fault, then_same}
use Rattle.py_fields.specs.declared.layout.Layout.{Layout}
use Rattle.py_stacks.specs.declared.asked.Asked.{Asked}
use Rattle.py_stacks.specs.Detail.{detail_at, detail_faults}
use Rattle.py_stacks.specs.Member.{MemberAt}
use Rattle.py_stacks.specs.Frames.{AreFrames, Call, back_by, back_of, detailed, frame_faults, frame_limit, frame_next}
use Rattle.py_stacks.specs.Frames.{frame_step, frames_at, frames_faults, kept_next, member_limit, members_at, part_by}
use Rattle.py_stacks.specs.Frames.{part_faults, plain_by, records_at, shown, shown_at, shown_by, step_by, step_part}
use Rattle.py_stacks.specs.Frames.{with_detail}
use Rattle.py_stacks.proofs.Details.{detail_same}
use Rattle.py_stacks.proofs.Gather.{step_parts}
use Rattle.py_stacks.proofs.Parts.{plain_is}

-- the one that called a member that was read
leads_back : (l : Layout) (d : Found MemberAt) (r : MemberAt) → d ≡ Ok r
    → (d >>= (λ r. Ok (back_by l r))) ≡ Ok (back_by l r)
leads_back l d r e = rw e refl

step_back : (q : Asked) (l : Layout) (m : Memory) (kept a : ℕ) (x : Step ℕ (Option Call))
    → frame_step q l m kept a ≡ Ok x → back_of l m a ≡ Ok x.next
unfolding back_of
step_back q l m kept a x e =
    let is = step_parts q l m kept a x e in
    leads_back l (records_at l m a) is.member is.read ∙ ap (λ (y : Step ℕ (Option Call)). Ok y.next) is.is

-- what a member shows as doesn't rest on how many are kept
part_detailed : (q : Asked) (l : Layout) (m : Memory) (kept : ℕ) (r : MemberAt) (p x : Option Call)
    → part_by q l m kept r p ≡ Ok x → detailed q l m r p ≡ Ok x
part_detailed q l m kept r None x e = e
part_detailed q l m kept r (Some c) x e = more (ltb kept frame_limit) e
  where
    more : (t : Bool) → cond t (detail_at q l m r >>= (λ d. Ok (Some (with_detail c d)))) (Err FrameLimit) ≡ Ok x
        → (detail_at q l m r >>= (λ d. Ok (Some (with_detail c d)))) ≡ Ok x
    more true e = e
    more false e = absurd (cc)

after_read : (q : Asked) (l : Layout) (m : Memory) (d : Found MemberAt) (r : MemberAt) (x : Option Call) → d ≡ Ok r
    → detailed q l m r (plain_by l m r) ≡ Ok x → (d >>= (λ r. detailed q l m r (plain_by l m r))) ≡ Ok x
after_read q l m d r x e f = rw e f

step_shown : (q : Asked) (l : Layout) (m : Memory) (kept a : ℕ) (x : Step ℕ (Option Call))
    → frame_step q l m kept a ≡ Ok x → shown_at q l m a ≡ Ok x.part
unfolding shown_at
step_shown q l m kept a x e =
    let is = step_parts q l m kept a x e in
    after_read q l m (records_at l m a) is.member x.part is.read (part_detailed q l m kept is.member (plain_by l m is.member) x.part is.part)

part_room : (q : Asked) (l : Layout) (m : Memory) (kept : ℕ) (r : MemberAt) (p x : Option Call)
    → part_by q l m kept r p ≡ Ok x → kept ≤ frame_limit → kept_next kept x ≤ frame_limit
part_room q l m kept r None x e le = let same : None ≡ x = ok_same _ _ e in rw (← same) le
part_room q l m kept r (Some c) x e le = more (ltb kept frame_limit) refl e
  where
    less : (y : Option Call) → kept < frame_limit → kept_next kept y ≤ frame_limit
    less None lt = le
    less (Some f) lt = omega (arith, lt)

    more : (t : Bool) → ltb kept frame_limit ≡ t
        → cond t (detail_at q l m r >>= (λ d. Ok (Some (with_detail c d)))) (Err FrameLimit) ≡ Ok x
        → kept_next kept x ≤ frame_limit
    more true is e = less x (grind (arith, nat_tests))
    more false is e = absurd (cc)

few_kept : (q : Asked) (l : Layout) (m : Memory) (k kept a : ℕ) (last : Bool) (ms : List (Option Call))
    → walk_at ChainLimit (frame_step q l m) k kept a ≡ Ok ms → kept ≤ frame_limit
    → kept + length (shown_by last ms) ≤ frame_limit
unfolding walk_at shown_by
few_kept q l m k kept zero last ms e le = rw (← ok_same [] ms e) (omega arith)
few_kept q l m zero kept (suc a) last ms e le = absurd (cc)
few_kept q l m (suc k) kept (suc a) last ms e le =
    let one = bound (frame_step q l m kept (suc a)) _ ms e in
    let rest = bound (walk_at ChainLimit (frame_step q l m) k one.0.state one.0.next) _ ms one.2 in
    let same = ok_same _ ms rest.2 in
    let is = step_parts q l m kept (suc a) one.0 one.1 in
    let state : kept_next kept one.0.part ≡ one.0.state = ap (λ (y : Step ℕ (Option Call)). y.state) is.is in
    rw (← same) (counted one.0.part one.0.state rest.0 state (few_kept q l m k one.0.state one.0.next last rest.0 rest.1) (part_room q l m kept is.member (plain_by l m is.member) one.0.part is.part le))
  where
    counted : (part : Option Call) (state : ℕ) (ms : List (Option Call)) → kept_next kept part ≡ state
        → (state ≤ frame_limit → state + length (shown_by last ms) ≤ frame_limit) → kept_next kept part ≤ frame_limit
        → kept + length (shown_by last (part ∷ ms)) ≤ frame_limit
    counted None state ms is ih room = omega (arith, is, ih (omega (arith, is, room)))
    counted (Some f) state ms is ih room = omega (arith, is, ih (omega (arith, is, room)))

-- the frames are those of the whole chain, to null, less the skipped members
pub frames_found : (q : Asked) (l : Layout) (m : Memory) (first : ℕ) (frames : List Call)
    → frames_at q l m first ≡ Ok frames → AreFrames q l m first frames
unfolding frames_at members_at
frames_found q l m first frames e =
    let walked = bound (walk_at ChainLimit (frame_step q l m) member_limit 0 first) (λ ms. Ok (shown ms)) frames e in
    let same : shown walked.0 ≡ frames = ok_same _ _ walked.2 in
    let chain = walk_chain ChainLimit (frame_step q l m) (back_of l m) (shown_at q l m) (step_back q l m) (step_shown q l m) member_limit 0 first walked.0 walked.1 in
    record {
      members = chain.members;
      chain = chain.chain;
      parts = walked.0;
      each = chain.each;
      shows = sym same;
      met = chain.within;
      kept = let few = few_kept q l m member_limit 0 first true walked.0 walked.1 (omega arith) in omega (arith, few, ap length same);
    }

-- ---- the first fault

from_inner_twice : {T U V : Type 0} (d : Found T) (f : T → U) (g : U → V)
    → fault_in d ≡ fault_in ((d >>= (λ x. Ok (f x))) >>= (λ y. Ok (g y)))
from_inner_twice (Ok x) f g = refl
from_inner_twice (Err e) f g = refl

part_same : (q : Asked) (l : Layout) (m : Memory) (kept : ℕ) (r : MemberAt) (p : Option Call)
    → first_fault (part_faults q l m kept r p) ≡ fault_in (part_by q l m kept r p >>= (λ x. Ok (step_part l kept r x)))
part_same q l m kept r None = refl
part_same q l m kept r (Some c) =
    elim (ltb kept frame_limit) as (λ t. first_fault (cond t (detail_faults q l m r) (FrameLimit ∷ [])) ≡ fault_in (cond t (detail_at q l m r >>= (λ d. Ok (Some (with_detail c d)))) (Err FrameLimit) >>= (λ x. Ok (step_part l kept r x))))
    [ true ↦ detail_same q l m r ∙ from_inner_twice (detail_at q l m r) (λ d. Some (with_detail c d)) (step_part l kept r) | false ↦ refl ]

step_same : (q : Asked) (l : Layout) (m : Memory) (kept : ℕ) (r : MemberAt)
    → first_fault (part_faults q l m kept r (plain_by l m r)) ≡ fault_in (step_by q l m kept r)
step_same q l m kept r = rw (plain_is l m r) (part_same q l m kept r (plain_by l m r))

frame_same : (q : Asked) (l : Layout) (m : Memory) (kept a : ℕ)
    → first_fault (frame_faults q l m kept a) ≡ fault_in (frame_step q l m kept a)
unfolding frame_faults frame_step
frame_same q l m kept a = then_same (records_at l m a) _ _ (step_same q l m kept)

kept_same : (q : Asked) (l : Layout) (m : Memory) (kept : ℕ) (r : MemberAt) (p x : Option Call)
    → part_by q l m kept r p ≡ Ok x → kept_next kept p ≡ kept_next kept x
kept_same q l m kept r None x e = ap (kept_next kept) (ok_same _ _ e)
kept_same q l m kept r (Some c) x e = more (ltb kept frame_limit) e
  where
    more : (t : Bool) → cond t (detail_at q l m r >>= (λ d. Ok (Some (with_detail c d)))) (Err FrameLimit) ≡ Ok x
        → kept + 1 ≡ kept_next kept x
    more true e =
        let d = bound (detail_at q l m r) (λ d. Ok (Some (with_detail c d))) x e in
        ap (kept_next kept) (ok_same (Some (with_detail c d.0)) x d.2)
    more false e = absurd (cc)

pub pair_same : {X Y : Type 0} (a b : X) (x y : Y) → a ≡ b → x ≡ y → ◌≡◌ {A = X × Y} (a, x) (b, y)
pair_same a b x y p q = rw (p, q) refl

lead : {X T : Type 0} (d : Found T) (g : T → X) (r : T) (x : X) → d ≡ Ok r → g r ≡ x → (d >>= (λ r. Ok (g r))) ≡ Ok x
lead d g r x e f = rw e (ap Ok f)

frame_leads : (q : Asked) (l : Layout) (m : Memory) (kept a : ℕ) (x : Step ℕ (Option Call))
    → frame_step q l m kept a ≡ Ok x → frame_next l m kept a ≡ Ok (x.next, x.state)
unfolding frame_next
frame_leads q l m kept a x e =
    let is = step_parts q l m kept a x e in
    let back : back_by l is.member ≡ x.next = ap (λ (y : Step ℕ (Option Call)). y.next) is.is in
    let state : kept_next kept x.part ≡ x.state = ap (λ (y : Step ℕ (Option Call)). y.state) is.is in
    lead (records_at l m a) (λ r. (back_by l r, kept_next kept (plain_by l m r))) is.member (x.next, x.state) is.read
    (pair_same _ _ _ _ back (kept_same q l m kept is.member (plain_by l m is.member) x.part is.part ∙ state))

from_inner : {T U : Type 0} (d : Found T) (f : T → U) → fault_in d ≡ fault_in (d >>= (λ x. Ok (f x)))
from_inner (Ok x) f = refl
from_inner (Err e) f = refl

pub frames_same : (q : Asked) (l : Layout) (m : Memory) (first : ℕ)
    → first_fault (frames_faults q l m first) ≡ fault_in (frames_at q l m first)
unfolding frames_faults frames_at members_at
frames_same q l m first =
    walk_first_fault ChainLimit (frame_step q l m) (frame_next l m) (frame_faults q l m) (frame_same q l m) (frame_leads q l m) member_limit 0 first
    ∙ from_inner (walk_at ChainLimit (frame_step q l m) member_limit 0 first) shown
