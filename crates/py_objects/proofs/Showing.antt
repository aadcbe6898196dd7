-- Parts that are shown one after another.
use Rattle.std.proofs.Common.{◌≡◌, ℕ, suc, ◌+◌, ◌-◌, ◌*◌, ◌<◌, ◌≤◌, Bool, true, false, List, [], ◌∷◌, ◌++◌, length}
use Rattle.std.proofs.Common.{refl, sym, ◌∙◌, ap, arith, append-nil, append_assoc, max}
use Rattle.std.proofs.Math.Nat.{sub-zero, le_refl}
use Rattle.std.specs.Prelude.{Option, Some, None, Ok, Err, nat_le, codes}
use Rattle.std.proofs.lemmas.Bool.Decides.{nat_tests}
use Rattle.process_memory.specs.Memory.{Memory, Found, Fault}
use Rattle.process_memory.specs.declared.memory.Span.{Span}
use Rattle.process_memory.specs.Seen.{Seen, ReadingOf}
use Rattle.process_memory.proofs.Reading.{reading_then, reading_gives, reading_none}
use Rattle.py_objects.specs.Shown.{Shown, goes_on_shown, ◌>>=◌, give, TellsShown}
use Rattle.py_objects.specs.ShownTexts.{dots}
use Rattle.py_objects.specs.Shows.{Brackets, part_then, parts_at, enclosed, joined, joined_after, separator, opening}
use Rattle.py_objects.specs.Shows.{closing}
use Rattle.py_objects.proofs.Steps.{Rises, tells_ok, tells_is, tells_then, tells_stop, tells_lost, tells_err, bind_is}
use Rattle.py_objects.proofs.Steps.{pair_is}
use Rattle.py_objects.proofs.Rising.{parts_rises, part_then_rises}

-- texts in front of those that follow
abbrev pub before : List (List ℕ) → Found (List (List ℕ)) × ℕ → Found (List (List ℕ)) × ℕ
before ts (Ok us, v) = (Ok (ts ++ us), v)
before ts (Err f, v) = (Err f, v)

before_none : (p : Found (List (List ℕ)) × ℕ) → p ≡ before [] p
before_none (Ok us, v) = refl
before_none (Err f, v) = refl

before_more : (ts : List (List ℕ)) (t : List ℕ) (p : Found (List (List ℕ)) × ℕ) → before ts (goes_on_shown p (λ us. give (t ∷ us))) ≡ before (ts ++ t ∷ []) p
before_more ts t (Ok us, v) = ap (λ u. (Ok u, v)) (sym (append_assoc ts (t ∷ []) us))
before_more ts t (Err f, v) = refl

before_count : (ts : List (List ℕ)) (p : Found (List (List ℕ)) × ℕ) → (before ts p).1 ≡ p.1
before_count ts (Ok us, v) = refl
before_count ts (Err f, v) = refl

-- one part of those that are left
module _ (part : ℕ → ℕ → Shown (Option (List ℕ))) (n k w v : ℕ) where
  step_skip : (v2 : ℕ) → part k w v ≡ (Ok None, v2) → parts_at part (suc n) k w v ≡ parts_at part n (k + 1) w v2
  unfolding parts_at part_then
  step_skip v2 e = bind_is (part k w) v (part_then w (λ left. parts_at part n (k + 1) left)) e

  step_more : (t : List ℕ) (v2 left : ℕ) → part k w v ≡ (Ok (Some t), v2) → left ≡ w - (length t + 2) → 5 < left → parts_at part (suc n) k w v ≡ goes_on_shown (parts_at part n (k + 1) left v2) (λ us. give (t ∷ us))
  unfolding parts_at part_then
  step_more t v2 left e is more =
      let over : nat_le (w - (length t + 2)) 5 ≡ false = rw (← is) (grind (arith, nat_tests)) in
      bind_is (part k w) v (part_then w (λ left. parts_at part n (k + 1) left)) e ∙ rw (over, ← is) (bind_is (parts_at part n (k + 1) left) v2 (λ us. give (t ∷ us)) refl)

  step_cut : (t : List ℕ) (v2 : ℕ) → part k w v ≡ (Ok (Some t), v2) → w - (length t + 2) ≤ 5 → parts_at part (suc n) k w v ≡ (Ok (dots ∷ []), v2)
  unfolding parts_at part_then
  step_cut t v2 e few =
      let over : nat_le (w - (length t + 2)) 5 ≡ true = grind (arith, nat_tests) in
      bind_is (part k w) v (part_then w (λ left. parts_at part n (k + 1) left)) e ∙ rw over refl

abbrev pub is_empty : List (List ℕ) → Bool
is_empty [] = true
is_empty (t ∷ ts) = false

joined_more : (ts : List (List ℕ)) (t : List ℕ) → joined_after (ts ++ t ∷ []) ≡ joined_after ts ++ (codes ", " ++ t)
unfolding joined_after
joined_more [] t = append-nil (codes ", " ++ t)
joined_more (u ∷ us) t = rw (joined_more us t) (sym (append_assoc (codes ", " ++ u) (joined_after us) (codes ", " ++ t)))

joined_push : (ts : List (List ℕ)) (t : List ℕ) → joined (ts ++ t ∷ []) ≡ joined ts ++ (separator (is_empty ts) ++ t)
unfolding joined joined_after
joined_push [] t = append-nil t
joined_push (u ∷ us) t = rw (joined_more us t) (sym (append_assoc u (joined_after us) (codes ", " ++ t)))

-- parts that are under way: those before the k-th have texts, and stand in the text so far
pub record Showing (allowed : Memory → Span → Type 0) (part : Memory → ℕ → ℕ → Shown (Option (List ℕ))) (b : Brackets) (n w0 v0 : ℕ) (s0 s1 : Seen) (text : List ℕ) (is_first : Bool) (k w v : ℕ) : Type 0 where
  pub texts : List (List ℕ)
  pub written : text ≡ opening b ++ joined texts
  pub first : is_first ≡ is_empty texts
  pub rises : v0 ≤ v
  pub reading : ReadingOf allowed (8 * (v - v0)) s0 s1 (λ m. parts_at (part m) n 0 w0 v0 ≡ before texts (parts_at (part m) (n - k) k w v))

-- the parts in brackets
abbrev pub whole : (ℕ → ℕ → Shown (Option (List ℕ))) → Brackets → ℕ → ℕ → ℕ → Found (List ℕ) × ℕ
whole part b n w v = (parts_at part n 0 w >>= (λ ts. give (enclosed b ts))) v

whole_is : (part : ℕ → ℕ → Shown (Option (List ℕ))) (b : Brackets) (n w v v2 : ℕ) (ts : List (List ℕ)) → parts_at part n 0 w v ≡ (Ok ts, v2) → whole part b n w v ≡ (Ok (enclosed b ts), v2)
whole_is part b n w v v2 ts e = bind_is (parts_at part n 0 w) v (λ ts. give (enclosed b ts)) e

enclosed_push : (b : Brackets) (ts : List (List ℕ)) (t text : List ℕ) → text ≡ opening b ++ joined ts → opening b ++ joined (ts ++ t ∷ []) ≡ text ++ (separator (is_empty ts) ++ t)
enclosed_push b ts t text e = rw (joined_push, e) (sym (append_assoc (opening b) (joined ts) (separator (is_empty ts) ++ t)))

tells_before : {E : Type 0} (fault : E → Option Fault) (ts : List (List ℕ)) (p : Found (List (List ℕ)) × ℕ) (e : E) (v : ℕ) → TellsShown fault p (Err e) v → TellsShown fault (before ts p) (Err e) v
tells_before fault ts p e v t =
    elim (fault e) as (λ o. fault e ≡ o → TellsShown fault (before ts p) (Err e) v) [
      | None ↦ λ is. let le : v ≤ p.1 = rw is at t.count in tells_lost e is (rw before_count le)
      | Some f ↦ λ is. let a : p.0 ≡ Err f = rw is at t.answer in let b : v ≡ p.1 = rw is at t.count in
          let q : p ≡ (Err f, v) = pair_is a (sym b) in tells_err e f is (ap (before ts) q)
    ] refl

-- the parts before the k-th stand in front of the rest
module _ (part : ℕ → ℕ → Shown (Option (List ℕ))) (b : Brackets) (n w0 v0 : ℕ) (texts : List (List ℕ)) (k w v : ℕ) (e : parts_at part n 0 w0 v0 ≡ before texts (parts_at part (n - k) k w v)) where
  part_stops : {E E' : Type 0} {fault : E → Option Fault} (fault' : E' → Option Fault) (x : E) (x' : E') (v2 : ℕ) → k < n → TellsShown fault (part k w v) (Err x) v2 → fault' x' ≡ fault x → ((k w : ℕ) → Rises (part k w)) → TellsShown fault' (whole part b n w0 v0) (Err x') v2
  unfolding parts_at
  part_stops fault' x x' v2 below t same r =
      let j : n - k ≡ suc (n - (k + 1)) = omega arith in
      let e2 : parts_at part n 0 w0 v0 ≡ before texts (parts_at part (suc (n - (k + 1))) k w v) = rw j at e in
      let go = λ (left : ℕ). parts_at part (n - (k + 1)) (k + 1) left in
      let p : TellsShown fault' (parts_at part (suc (n - (k + 1))) k w v) (Err x') v2 = tells_stop fault' (part k w) v (part_then w go) x' t same (λ o. part_then_rises w go o (λ left. parts_rises part (n - (k + 1)) (k + 1) left r)) in
      let q : TellsShown fault' (parts_at part n 0 w0 v0) (Err x') v2 = rw e2 (tells_before fault' texts (parts_at part (suc (n - (k + 1))) k w v) x' v2 p) in
      tells_stop fault' (parts_at part n 0 w0) v0 (λ ts. give (enclosed b ts)) x' q refl (λ ts v. le_refl v)

  part_lost : {E E' : Type 0} {fault : E → Option Fault} (fault' : E' → Option Fault) (x' : E') (o : Option (List ℕ)) (v2 : ℕ) → k < n → TellsShown {E = E} fault (part k w v) (Ok o) v2 → fault' x' ≡ None → ((k w : ℕ) → Rises (part k w)) → TellsShown fault' (whole part b n w0 v0) (Err x') v2
  unfolding parts_at
  part_lost fault' x' o v2 below t none r =
      let j : n - k ≡ suc (n - (k + 1)) = omega arith in
      let e2 : parts_at part n 0 w0 v0 ≡ before texts (parts_at part (suc (n - (k + 1))) k w v) = rw j at e in
      let go = λ (left : ℕ). parts_at part (n - (k + 1)) (k + 1) left in
      let least = part_then_rises w go o (λ left. parts_rises part (n - (k + 1)) (k + 1) left r) v2 in
      let p : TellsShown fault' (parts_at part (suc (n - (k + 1))) k w v) (Err x') v2 = tells_then (part k w) v (part_then w go) t (tells_lost x' none least) in
      let q : TellsShown fault' (parts_at part n 0 w0 v0) (Err x') v2 = rw e2 (tells_before fault' texts (parts_at part (suc (n - (k + 1))) k w v) x' v2 p) in
      tells_stop fault' (parts_at part n 0 w0) v0 (λ ts. give (enclosed b ts)) x' q refl (λ ts v. le_refl v)

  part_cuts : {E : Type 0} {fault : E → Option Fault} (t : List ℕ) (v2 : ℕ) → k < n → TellsShown {E = E} fault (part k w v) (Ok (Some t)) v2 → w - (length t + 2) ≤ 5 → whole part b n w0 v0 ≡ (Ok (enclosed b (texts ++ dots ∷ [])), v2)
  part_cuts t v2 below p few =
      let j : n - k ≡ suc (n - (k + 1)) = omega arith in
      let e2 : parts_at part n 0 w0 v0 ≡ before texts (parts_at part (suc (n - (k + 1))) k w v) = rw j at e in
      whole_is part b n w0 v0 v2 (texts ++ dots ∷ []) (e2 ∙ ap (before texts) (step_cut part (n - (k + 1)) k w v t v2 (tells_ok p) few))

  parts_done : n ≤ k → whole part b n w0 v0 ≡ (Ok (enclosed b texts), v)
  unfolding parts_at
  parts_done over =
      let j : n - k ≡ 0 = omega arith in
      let e2 : parts_at part n 0 w0 v0 ≡ (Ok (texts ++ []), v) = rw j at e in
      whole_is part b n w0 v0 v texts (e2 ∙ ap (λ u. (Ok u, v)) (append-nil texts))

-- nothing is shown yet
pub showing_init : {allowed : Memory → Span → Type 0} (part : Memory → ℕ → ℕ → Shown (Option (List ℕ))) (b : Brackets) (n w0 v0 : ℕ) (s : Seen) (text : List ℕ) → text ≡ opening b → Showing allowed part b n w0 v0 s s text true 0 w0 v0
unfolding joined
showing_init part b n w0 v0 s text e = record {
  texts = [];
  written = e ∙ sym (append-nil (opening b));
  first = refl;
  rises = le_refl v0;
  reading = reading_none _ s _ (λ m. rw sub-zero (before_none (parts_at (part m) n 0 w0 v0)));
}

module _ {allowed : Memory → Span → Type 0} {part : Memory → ℕ → ℕ → Shown (Option (List ℕ))} {b : Brackets} {n w0 v0 : ℕ} {s0 s1 : Seen} {text : List ℕ} {is_first : Bool} {k w v : ℕ} where
  -- an empty slot
  pub showing_skip : {E : Type 0} {fault : E → Option Fault} {s2 : Seen} {v2 : ℕ} → Showing allowed part b n w0 v0 s0 s1 text is_first k w v → k < n → v < v2 → ReadingOf allowed (max 1 (8 * (v2 - v))) s1 s2 (λ m. TellsShown {E = E} fault (part m k w v) (Ok None) v2) → Showing allowed part b n w0 v0 s0 s2 text is_first (k + 1) w v2
  showing_skip {v2 = v2} s below more r =
      let j : n - k ≡ suc (n - (k + 1)) = omega arith in
      record {
        texts = s.texts;
        written = s.written;
        first = s.first;
        rises = omega (arith, s.rises);
        reading = reading_gives (8 * (v2 - v0)) _ (reading_then (λ m. parts_at (part m) n 0 w0 v0 ≡ before s.texts (parts_at (part m) (n - (k + 1)) (k + 1) w v2)) s.reading r
            (λ m e t. rw j at e ∙ ap (before s.texts) (step_skip (part m) (n - (k + 1)) k w v v2 (tells_ok t)))) (omega (arith, s.rises)) (λ m e. e);
      }

  -- a part that leaves room for more
  pub showing_more : {E : Type 0} {fault : E → Option Fault} {s2 : Seen} {v2 : ℕ} (t text2 : List ℕ) (left : ℕ) → Showing allowed part b n w0 v0 s0 s1 text is_first k w v → k < n → v < v2 → ReadingOf allowed (max 1 (8 * (v2 - v))) s1 s2 (λ m. TellsShown {E = E} fault (part m k w v) (Ok (Some t)) v2) → left ≡ w - (length t + 2) → 5 < left → text2 ≡ text ++ (separator is_first ++ t) → Showing allowed part b n w0 v0 s0 s2 text2 false (k + 1) left v2
  showing_more {v2 = v2} t text2 left s below more r is room written =
      let j : n - k ≡ suc (n - (k + 1)) = omega arith in
      record {
        texts = s.texts ++ t ∷ [];
        written = written ∙ rw s.first (sym (enclosed_push b s.texts t text s.written));
        first = elim s.texts as (λ u. false ≡ is_empty (u ++ t ∷ [])) [ [] ↦ refl | x ∷ xs ↦ refl ];
        rises = omega (arith, s.rises);
        reading = reading_gives (8 * (v2 - v0)) _ (reading_then (λ m. parts_at (part m) n 0 w0 v0 ≡ before (s.texts ++ t ∷ []) (parts_at (part m) (n - (k + 1)) (k + 1) left v2)) s.reading r
            (λ m e a. rw j at e ∙ ap (before s.texts) (step_more (part m) (n - (k + 1)) k w v t v2 left (tells_ok a) is room) ∙ before_more s.texts t (parts_at (part m) (n - (k + 1)) (k + 1) left v2))) (omega (arith, s.rises)) (λ m e. e);
      }

  -- a part that can't be shown
  pub showing_stop : {E E' : Type 0} {fault : E → Option Fault} {fault' : E' → Option Fault} {s2 : Seen} {v2 : ℕ} {x : E} (x' : E') → Showing allowed part b n w0 v0 s0 s1 text is_first k w v → k < n → v ≤ v2 → ((m : Memory) (k w : ℕ) → Rises (part m k w)) → ReadingOf allowed (max 1 (8 * (v2 - v))) s1 s2 (λ m. TellsShown {T = Option (List ℕ)} fault (part m k w v) (Err x) v2) → fault' x' ≡ fault x → ReadingOf allowed (8 * (v2 - v0) + 1) s0 s2 (λ m. TellsShown fault' (whole (part m) b n w0 v0) (Err x') v2)
  showing_stop {fault' = fault'} {v2 = v2} {x = x} x' s below more rises r same =
      reading_gives (8 * (v2 - v0) + 1) _ (reading_then _ s.reading r
      (λ m e t. part_stops (part m) b n w0 v0 s.texts k w v e fault' x x' v2 below t same (rises m))) (omega (arith, s.rises)) (λ m e. e)

  -- memory is wanting after a part
  pub showing_lost : {E E' : Type 0} {fault : E → Option Fault} {fault' : E' → Option Fault} {s2 : Seen} {v2 : ℕ} {o : Option (List ℕ)} (x' : E') → Showing allowed part b n w0 v0 s0 s1 text is_first k w v → k < n → v ≤ v2 → ((m : Memory) (k w : ℕ) → Rises (part m k w)) → ReadingOf allowed (max 1 (8 * (v2 - v))) s1 s2 (λ m. TellsShown {E = E} fault (part m k w v) (Ok o) v2) → fault' x' ≡ None → ReadingOf allowed (8 * (v2 - v0) + 1) s0 s2 (λ m. TellsShown fault' (whole (part m) b n w0 v0) (Err x') v2)
  showing_lost {fault' = fault'} {v2 = v2} {o = o} x' s below more rises r none =
      reading_gives (8 * (v2 - v0) + 1) _ (reading_then _ s.reading r
      (λ m e t. part_lost (part m) b n w0 v0 s.texts k w v e fault' x' o v2 below t none (rises m))) (omega (arith, s.rises)) (λ m e. e)

  -- a part that leaves no room for more
  pub showing_cut : {E E' : Type 0} {fault : E → Option Fault} {fault' : E' → Option Fault} {s2 : Seen} {v2 : ℕ} (t out : List ℕ) → Showing allowed part b n w0 v0 s0 s1 text is_first k w v → k < n → v ≤ v2 → ReadingOf allowed (max 1 (8 * (v2 - v))) s1 s2 (λ m. TellsShown {E = E} fault (part m k w v) (Ok (Some t)) v2) → w - (length t + 2) ≤ 5 → out ≡ (text ++ (separator is_first ++ dots)) ++ closing b → ReadingOf allowed (8 * (v2 - v0) + 1) s0 s2 (λ m. TellsShown {E = E'} fault' (whole (part m) b n w0 v0) (Ok out) v2)
  unfolding enclosed
  showing_cut {v2 = v2} t out s below more r few is =
      let out_is : out ≡ enclosed b (s.texts ++ dots ∷ []) = is ∙ rw s.first (ap (λ u. u ++ closing b) (sym (enclosed_push b s.texts dots text s.written))) in
      reading_gives (8 * (v2 - v0) + 1) _ (reading_then _ s.reading r
      (λ m e a. tells_is (rw out_is (part_cuts (part m) b n w0 v0 s.texts k w v e t v2 below a few)))) (omega (arith, s.rises)) (λ m e. e)

  -- no part is left
  pub showing_done : {E' : Type 0} {fault' : E' → Option Fault} (out : List ℕ) → Showing allowed part b n w0 v0 s0 s1 text is_first k w v → n ≤ k → out ≡ text ++ closing b → ReadingOf allowed (8 * (v - v0) + 1) s0 s1 (λ m. TellsShown {E = E'} fault' (whole (part m) b n w0 v0) (Ok out) v)
  unfolding enclosed
  showing_done out s over is =
      let out_is : out ≡ enclosed b s.texts = is ∙ ap (λ u. u ++ closing b) s.written in
      reading_gives (8 * (v - v0) + 1) _ s.reading (omega arith) (λ m e. tells_is (rw out_is (parts_done (part m) b n w0 v0 s.texts k w v e over)))

  pub showing_unclosed : {E' : Type 0} {fault' : E' → Option Fault} (x' : E') → Showing allowed part b n w0 v0 s0 s1 text is_first k w v → n ≤ k → fault' x' ≡ None → ReadingOf allowed (8 * (v - v0) + 1) s0 s1 (λ m. TellsShown fault' (whole (part m) b n w0 v0) (Err x') v)
  showing_unclosed x' s over none =
      reading_gives (8 * (v - v0) + 1) _ s.reading (omega arith) (λ m e. tells_lost x' none (rw (parts_done (part m) b n w0 v0 s.texts k w v e over) (le_refl v)))
