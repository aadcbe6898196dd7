-- Stacks, frame by frame; and that there is one alone.
use Rattle.std.proofs.Common.{◌≡◌, ◌∙◌, ℕ, ◌+◌, ◌*◌, ◌<◌, ◌≢◌, List, [], ◌∷◌, ◌++◌, length, refl, sym, ap, arith}
use Rattle.std.proofs.Common.{length-append, subst}
use Rattle.std.specs.Prelude.{Result, Ok, Err, IfOk}
use Rattle.process_memory.specs.Memory.{Memory}
use Rattle.process_memory.specs.Seen.{Reading, Seen}
use Rattle.process_memory.proofs.Reading.{reading_gives, reading_none, reading_then}
use Rattle.core_unwind.specs.declared.end.End.{End}
use Rattle.core_unwind.specs.declared.end.UnwindError.{UnwindError}
use Rattle.core_unwind.specs.declared.frame.Frame.{Frame}
use Rattle.core_unwind.specs.declared.frame.Next.{Next}
use Rattle.core_unwind.specs.declared.frame.Next.TheVariants.{Caller, Stops}
use Rattle.core_unwind.specs.declared.frame.Turn.{Turn}
use Rattle.core_unwind.specs.declared.state.State.{State}
use Rattle.core_unwind.specs.declared.walk.NativeStack.{NativeStack}
use Rattle.core_unwind.specs.Stacks.{Chain, EndsBy, Following, IsStack, Leads, chain_of}

abbrev turned : Frame → Next → Turn
turned frame next = record { frame = frame; next = next }

-- a step, by what follows its frame
pub step_shown : (step : State → Turn → Type 0) (s : State) (turn : Turn) (next : Next) → turn.next ≡ next → step s turn
    → step s (turned turn.frame next)
step_shown step s turn next is h = subst (λ (n : Next). step s (turned turn.frame n)) is h

-- ---- one more frame

pub leads_more : (step : State → Turn → Type 0) (s : State) (fs : List Frame) (a b : State) (f : Frame) → Leads
    step s fs a
    → step a (turned f (Caller b)) → Leads step s (fs ++ f ∷ []) b
unfolding Leads
leads_more step s [] a b f same here = (b, subst (λ (x : State). step x (turned f (Caller b))) (sym same) here, refl)
leads_more step s (g ∷ fs) a b f l here = (l.0, l.1, leads_more step l.0 fs a b f l.2 here)

stack_here : (step : State → Turn → Type 0) (limit : ℕ) (s : State) (fs : List Frame) (a : State) (f : Frame) (next
    : Next)
    (end : End) → Leads step s fs a → step a (turned f next) → length fs < limit → EndsBy next (length fs + 1) limit end
    → IsStack step limit s (record { frames = fs ++ f ∷ []; last = a; end = end })
stack_here step limit s fs a f next end leads here within ends = record {
  callees = fs;
  leads = leads;
  last = f;
  next = next;
  turns = here;
  frames = refl;
  within = within;
  ends = ends;
}

pub following_init : (step : Memory → State → Turn → Type 0) (limit : ℕ) (first : State) (seen : Seen) → 0 < limit
    → Following step limit first seen seen [] first
unfolding Leads
following_init step limit first seen some = record {
  within = some;
  reading = reading_none _ seen _ (λ m. refl);
}

module _ {step : Memory → State → Turn → Type 0} {limit : ℕ} {first : State} {s0 s1 : Seen} {frames : List Frame}
    {at : State} where
  pub following_more : {s2 : Seen} {more : List Frame} (f : Frame) (caller : State)
      → Following step limit first s0 s1 frames at → Reading 8549 s1 s2 (λ m. step m at (turned f (Caller caller)))
      → more ≡ frames ++ f ∷ [] → length more ≢ limit → Following step limit first s0 s2 more caller
  following_more {more = more} f caller w r is room =
      let long : length more ≡ length frames + 1 = ap length is ∙ length-append frames (f ∷ []) in
      record {
        within = omega (arith, w.within, long, room);
        reading = reading_gives (8549 * length more) (λ m. Leads (step m) first more caller)
            (reading_then (λ m. Leads (step m) first more caller) w.reading r
            (λ m p q. rw is (leads_more (step m) first frames at caller f p q)))
            (omega (arith, long)) (λ m h. h);
      }

  pub following_stops : {s2 : Seen} {more : List Frame} (f : Frame) (next : Next) (end : End)
      → Following step limit first s0 s1 frames at → Reading 8549 s1 s2 (λ m. step m at (turned f next))
      → more ≡ frames ++ f ∷ [] → EndsBy next (length more) limit end
      → Reading (8549 * length more) s0 s2 (λ m. IsStack (step m) limit first (record { frames = more; last = at; end = end }))
  following_stops {more = more} f next end w r is ends =
      let long : length more ≡ length frames + 1 = ap length is ∙ length-append frames (f ∷ []) in
      reading_gives (8549 * length more) _
      (reading_then (λ m. IsStack (step m) limit first (record { frames = more; last = at; end = end })) w.reading r
      (λ m p q. rw is (stack_here (step m) limit first frames at f next end p q w.within (rw long at ends))))
      (omega (arith, long)) (λ m h. h)

  -- memory was wanting
  pub following_lost : {s2 : Seen} {P : Memory → Type 0} (Q : Memory → Type 0)
      → Following step limit first s0 s1 frames at → Reading 8549 s1 s2 P → ((m : Memory) → Q m)
      → Reading (8549 * limit) s0 s2 Q
  following_lost Q w r q = reading_gives _ _ (reading_then Q w.reading r (λ m a b. q m)) (omega (arith, w.within))
      (λ m h. h)

-- ---- there is one stack alone

same_turn : (f g : Frame) (n o : Next) → turned f n ≡ turned g o → (f ≡ g) × (n ≡ o)
same_turn f g n o is = (ap (λ (t : Turn). t.frame) is, ap (λ (t : Turn). t.next) is)

same_caller : (a b : State) → ◌≡◌ {A = Next} (Caller a) (Caller b) → a ≡ b
same_caller a b is = cc

same_end : (next : Next) (count limit : ℕ) (d e : End) → EndsBy next count limit d → EndsBy next count limit e → d ≡ e
same_end (Stops end) count limit d e p q = p ∙ sym q
same_end (Caller s) count limit d e p q = p.1 ∙ sym q.1

full_there : (next : Next) (s : State) (count limit : ℕ) (e : End) → next ≡ Caller s → EndsBy next count limit e
    → count ≡ limit
full_there next s count limit e is ends = (rw is at ends).0

module _ (step : State → Turn → Type 0) (once : (s : State) (x y : Turn) → step s x → step s y → x ≡ y)
    (limit : ℕ) where
  -- how a list of frames ends, behind so many
  record Ended (count : ℕ) (s : State) (fs : List Frame) (last : Frame) (end : End) : Type 0 where
    at : State
    next : Next
    leads : Leads step s fs at
    turns : step at (turned last next)
    within : count + length fs < limit
    ends : EndsBy next (count + (length fs + 1)) limit end

  both_end : (count : ℕ) (s : State) (l k : Frame) (d e : End) (p : Ended count s [] l d) (q : Ended count s [] k e)
      → (l ∷ [] ≡ k ∷ []) × (d ≡ e) × (p.at ≡ q.at)
  unfolding Leads
  both_end count s l k d e p q =
      let same = same_turn l k p.next q.next (once s (turned l p.next) (turned k q.next)
      (subst (λ (x : State). step x (turned l p.next)) (sym p.leads) p.turns)
      (subst (λ (x : State). step x (turned k q.next)) (sym q.leads) q.turns)) in
      (ap (λ f. f ∷ []) same.0, same_end q.next (count + 1) limit d e (rw same.1 at p.ends) q.ends, sym p.leads ∙ q.leads)

  one_ends : (count : ℕ) (s : State) (l g k : Frame) (gs : List Frame) (d e : End) → Ended count s [] l d
      → Ended count s (g ∷ gs) k e → ⊥
  unfolding Leads
  one_ends count s l g k gs d e p q =
      let same = same_turn l g p.next (Caller q.leads.0) (once s (turned l p.next) (turned g (Caller q.leads.0))
      (subst (λ (x : State). step x (turned l p.next)) (sym p.leads) p.turns) q.leads.1) in
      let full : count + 1 ≡ limit = full_there p.next q.leads.0 (count + 1) limit d same.1 p.ends in
      omega (arith, full, q.within)

  next_ended : (count : ℕ) (s : State) (f last : Frame) (fs : List Frame) (end : End) (caller : State)
      → (p : Ended count s (f ∷ fs) last end) → Leads step caller fs p.at → Ended (count + 1) caller fs last end
  next_ended count s f last fs end caller p leads =
      let same : count + (length (f ∷ fs) + 1) ≡ (count + 1) + (length fs + 1) = omega arith in
      record {
        at = p.at;
        next = p.next;
        leads = leads;
        turns = p.turns;
        within = omega (arith, p.within);
        ends = subst (λ (n : ℕ). EndsBy p.next n limit end) same p.ends;
      }

  frames_once : (count : ℕ) (s : State) (fs gs : List Frame) (l k : Frame) (d e : End) (p : Ended count s fs l d)
      (q : Ended count s gs k e) → (fs ++ l ∷ [] ≡ gs ++ k ∷ []) × (d ≡ e) × (p.at ≡ q.at)
  unfolding Leads next_ended
  frames_once count s [] [] l k d e p q = both_end count s l k d e p q
  frames_once count s [] (g ∷ gs) l k d e p q = absurd (one_ends count s l g k gs d e p q)
  frames_once count s (f ∷ fs) [] l k d e p q = absurd (one_ends count s k f l fs e d q p)
  frames_once count s (f ∷ fs) (g ∷ gs) l k d e p q =
      let same = same_turn f g (Caller p.leads.0) (Caller q.leads.0)
      (once s (turned f (Caller p.leads.0)) (turned g (Caller q.leads.0)) p.leads.1 q.leads.1) in
      let caller : q.leads.0 ≡ p.leads.0 = sym (same_caller p.leads.0 q.leads.0 same.1) in
      let rest = frames_once (count + 1) p.leads.0 fs gs l k d e (next_ended count s f l fs d p.leads.0 p p.leads.2)
      (next_ended count s g k gs e p.leads.0 q (subst (λ (x : State). Leads step x gs q.at) caller q.leads.2)) in
      (ap (λ x. x ∷ (fs ++ l ∷ [])) same.0 ∙ ap (λ xs. g ∷ xs) rest.0, rest.1, rest.2)

  ended_of : (first : State) (x : Chain) → (p : IsStack step limit first x) → Ended 0 first p.callees p.last x.end
  ended_of first x p = record {
    at = x.last;
    next = p.next;
    leads = p.leads;
    turns = p.turns;
    within = omega (arith, p.within);
    ends = subst (λ (n : ℕ). EndsBy p.next n limit x.end) (omega arith) p.ends;
  }

  pub stack_once : (first : State) (x y : Chain) → IsStack step limit first x → IsStack step limit first y → x ≡ y
  unfolding ended_of
  stack_once first x y p q =
      let same = frames_once 0 first p.callees q.callees p.last q.last x.end y.end (ended_of first x p) (ended_of
      first y q)
      in
      ap (λ (fs : List Frame). record { frames = fs; last = x.last; end = x.end }) (p.frames ∙ same.0 ∙ sym q.frames)
      ∙ ap (λ (e : End). record { frames = y.frames; last = x.last; end = e }) same.1
      ∙ ap (λ (s : State). record { frames = y.frames; last = s; end = y.end }) same.2

pub stack_only : (step : State → Turn → Type 0) (once : (s : State) (x y : Turn) → step s x → step s y → x ≡ y)
    (limit : ℕ)
    (first : State) (r : Result NativeStack UnwindError) → IfOk r (λ stack. IsStack step limit first (chain_of stack))
    → (other : Chain) → IsStack step limit first other → IfOk r (λ stack. chain_of stack ≡ other)
stack_only step once limit first (Ok stack) h other is = stack_once step once limit first (chain_of stack) other h is
stack_only step once limit first (Err e) h other is = tt
