-- Chains, member by member; and that there is one alone.
use Rattle.std.proofs.Common.{◌≡◌, ◌≢◌, ℕ, zero, suc, ◌-◌, ◌≤◌, Bool, true, false, List, [], ◌∷◌, ◌++◌, length}
use Rattle.std.proofs.Common.{refl, sym, ◌∙◌, ap, arith, append-nil, append_assoc}
use Rattle.std.proofs.Math.Nat.{sub-zero}
use Rattle.std.specs.List.{AllPairs}
use Rattle.thread_exceptions.specs.Links.{Chain, End, EndsAt, IsLinks, Leads, Stop, StopsAt, Turn, behind, chain_from}
use Rattle.thread_exceptions.specs.Links.{has}
use Rattle.thread_exceptions.specs.Links.End.{Stops, Cycle, Cut}
use Rattle.thread_exceptions.specs.Links.Turn.{To, Last, Before}
use Rattle.thread_exceptions.proofs.Repeats.{AreNew, contains_has, has_contains, has_no, new_pairs, no_contains}
use Rattle.thread_exceptions.proofs.Repeats.{pairs_new}

pub behind_twice : (xs ys : List ℕ) (c : Chain) → behind xs (behind ys c) ≡ behind (xs ++ ys) c
behind_twice xs ys c = ap (λ ms. record { members = ms; end = c.end }) (sym (append_assoc xs ys c.members))

module _ (turn : ℕ → Turn) where
  pub from_met : (met : List ℕ) (left a : ℕ) → has met a ≡ true
      → chain_from turn met left a ≡ record { members = []; end = Cycle a }
  unfolding chain_from
  from_met met zero a e = rw e refl
  from_met met (suc left) a e = rw e refl

  pub from_cut : (met : List ℕ) (left a : ℕ) → has met a ≡ false → left ≡ 0
      → chain_from turn met left a ≡ record { members = []; end = Cut a }
  unfolding chain_from
  from_cut met zero a e none = rw e refl
  from_cut met (suc left) a e none = absurd (omega (arith, none))

  pub from_to : (met : List ℕ) (left a n : ℕ) → has met a ≡ false → turn a ≡ To n
      → chain_from turn met (suc left) a ≡ behind (a ∷ []) (chain_from turn (met ++ a ∷ []) left n)
  unfolding chain_from
  from_to met left a n e t = rw (e, t) refl

  pub from_last : (met : List ℕ) (left a : ℕ) (why : Stop) → has met a ≡ false → left ≢ 0 → turn a ≡ Last why
      → chain_from turn met left a ≡ record { members = a ∷ []; end = Stops why }
  unfolding chain_from
  from_last met zero a why e some t = absurd (some refl)
  from_last met (suc left) a why e some t = rw (e, t) refl

  pub from_before : (met : List ℕ) (left a : ℕ) (why : Stop) → has met a ≡ false → left ≢ 0 → turn a ≡ Before why
      → chain_from turn met left a ≡ record { members = []; end = Stops why }
  unfolding chain_from
  from_before met zero a why e some t = absurd (some refl)
  from_before met (suc left) a why e some t = rw (e, t) refl

  -- ---- what is read is the chain

  -- the chain from an address on, behind those that were met
  record Goes (met : List ℕ) (left head : ℕ) (chain : Chain) : Type 0 where
    waiting : List ℕ
    at : ℕ
    leads : Leads turn head waiting at
    new : AreNew met waiting
    within : length waiting ≤ left
    last : List ℕ
    members : chain.members ≡ waiting ++ last
    ends : EndsAt turn (met ++ waiting) (left - length waiting) at last chain.end

  goes_here : (met : List ℕ) (left at : ℕ) (last : List ℕ) (end : End) → EndsAt turn met left at last end
      → Goes met left at (record { members = last; end = end })
  unfolding Leads
  goes_here met left at last end h = record {
    waiting = [];
    at = at;
    leads = refl;
    new = tt;
    within = omega arith;
    last = last;
    members = refl;
    ends = rw (append-nil met, sub-zero) h;
  }

  goes_on : (met : List ℕ) (left a n : ℕ) (c : Chain) → has met a ≡ false → turn a ≡ To n
      → Goes (met ++ a ∷ []) left n c → Goes met (suc left) a (behind (a ∷ []) c)
  unfolding Leads
  goes_on met left a n c e t g =
      let fewer : suc left - length (a ∷ g.waiting) ≡ left - length g.waiting = omega arith in
      record {
        waiting = a ∷ g.waiting;
        at = g.at;
        leads = (refl, n, t, g.leads);
        new = (e, g.new);
        within = omega (arith, g.within);
        last = g.last;
        members = ap (λ ms. a ∷ ms) g.members;
        ends = rw fewer (rw (append_assoc met (a ∷ []) g.waiting) at g.ends);
      }

  goes : (met : List ℕ) (left a : ℕ) → Goes met left a (chain_from turn met left a)
  goes met zero a = by (has met a) refl
    where
      by : (b : Bool) → has met a ≡ b → Goes met 0 a (chain_from turn met 0 a)
      by true e = rw (from_met met 0 a e) (goes_here met 0 a [] (Cycle a) (has_contains met a e, refl, refl))
      by false e = rw (from_cut met 0 a e refl) (goes_here met 0 a [] (Cut a) (no_contains met a e, refl, refl, refl))
  goes met (suc left) a = by (λ n. goes (met ++ a ∷ []) left n) (has met a) refl
    where
      some : suc left ≢ 0
      some z = cc

      turned : ((n : ℕ) → Goes (met ++ a ∷ []) left n (chain_from turn (met ++ a ∷ []) left n)) → (t : Turn)
          → has met a ≡ false → turn a ≡ t → Goes met (suc left) a (chain_from turn met (suc left) a)
      turned rest (To n) e t = rw (from_to met left a n e t)
          (goes_on met left a n (chain_from turn (met ++ a ∷ []) left n) e t (rest n))
      turned rest (Last why) e t = rw (from_last met (suc left) a why e some t) (goes_here met (suc left) a (a ∷ [])
          (Stops why) (no_contains met a e, some, rw t (refl, refl)))
      turned rest (Before why) e t = rw (from_before met (suc left) a why e some t) (goes_here met (suc left) a []
          (Stops why) (no_contains met a e, some, rw t (refl, refl)))

      by : ((n : ℕ) → Goes (met ++ a ∷ []) left n (chain_from turn (met ++ a ∷ []) left n)) → (b : Bool)
          → has met a ≡ b → Goes met (suc left) a (chain_from turn met (suc left) a)
      by rest true e = rw (from_met met (suc left) a e) (goes_here met (suc left) a [] (Cycle a)
          (has_contains met a e, refl, refl))
      by rest false e = turned rest (turn a) e refl

  pub awaits_found : (limit head : ℕ) → IsLinks turn limit head (chain_from turn [] limit head)
  awaits_found limit head =
      let g = goes [] limit head in
      let none : AllPairs (λ (x y : ℕ). x ≢ y) [] = λ i j d lt within. absurd (omega (arith, within)) in
      record {
        waiting = g.waiting;
        at = g.at;
        leads = g.leads;
        once = new_pairs [] g.waiting none g.new;
        within = g.within;
        last = g.last;
        members = g.members;
        ends = g.ends;
      }

  -- ---- and the chain is what is read, so that there is one alone

  ends_known : (met : List ℕ) (left at : ℕ) (last : List ℕ) (end : End) → EndsAt turn met left at last end
      → chain_from turn met left at ≡ record { members = last; end = end }
  ends_known met left at last (Cycle a) (there, none, is) = rw (none, is)
      (from_met met left at (contains_has met at there))
  ends_known met left at last (Cut a) (never, full, none, is) = rw (none, is)
      (from_cut met left at (has_no met at never) full)
  ends_known met left at last (Stops why) (never, some, stops) = by (turn at) refl stops
    where
      by : (t : Turn) → turn at ≡ t → StopsAt t at last why
          → chain_from turn met left at ≡ record { members = last; end = Stops why }
      by (To n) e h = absurd h
      by (Last stop) e h = rw (h.0, ← h.1) (from_last met left at stop (has_no met at never) some e)
      by (Before stop) e h = rw (h.0, ← h.1) (from_before met left at stop (has_no met at never) some e)

  leads_known : (met : List ℕ) (left head : ℕ) (waiting : List ℕ) (at : ℕ) → Leads turn head waiting at
      → AreNew met waiting → length waiting ≤ left
      → chain_from turn met left head ≡ behind waiting (chain_from turn (met ++ waiting) (left - length waiting) at)
  unfolding Leads
  leads_known met left head [] at leads new within = rw (append-nil met, sub-zero, leads) refl
  leads_known met zero head (x ∷ xs) at leads new within = absurd (omega (arith, within))
  leads_known met (suc left) head (x ∷ xs) at (is, n, t, leads) new within =
      let fewer : suc left - length (x ∷ xs) ≡ left - length xs = omega arith in
      let rest = leads_known (met ++ x ∷ []) left n xs at leads new.1 (omega (arith, within)) in
      ap (chain_from turn met (suc left)) (sym is) ∙ from_to met left x n new.0 t ∙ ap (behind (x ∷ [])) rest
      ∙ rw (fewer, append_assoc met (x ∷ []) xs) refl

  pub awaits_unique : (limit head : ℕ) (c : Chain) → IsLinks turn limit head c → chain_from turn [] limit head ≡ c
  awaits_unique limit head c h =
      leads_known [] limit head h.waiting h.at h.leads (pairs_new [] h.waiting h.once) h.within
      ∙ ap (behind h.waiting) (ends_known h.waiting (limit - length h.waiting) h.at h.last c.end h.ends)
      ∙ ap (λ ms. record { members = ms; end = c.end }) (sym h.members)
