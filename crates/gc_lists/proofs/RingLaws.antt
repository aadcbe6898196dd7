-- What is followed is the list of its head, and the one alone.
use Rattle.std.proofs.Common.{◌≡◌, ◌≢◌, ℕ, zero, suc, ◌-◌, ◌≤◌, inl, inr, Bool, true, false, List, [], ◌∷◌, ◌++◌, length}
use Rattle.std.proofs.Common.{refl, sym, ◌∙◌, ap, append-nil, arith, nat_eq, Option, Some, None}
use Rattle.std.proofs.Math.Nat.{sub-zero}
use Rattle.std.proofs.lemmas.List.Folds.{list_any_at}
use Rattle.std.proofs.lemmas.Map.Views.{Contains-from_any}
use Rattle.std.specs.List.{Contains}
use Rattle.gc_lists.specs.declared.links.Links.{Links}
use Rattle.gc_lists.specs.declared.turn.ListEnd.{ListEnd}
use Rattle.gc_lists.specs.declared.turn.ListEnd.TheVariants.{Whole, Torn, Unreadable, Cut}
use Rattle.gc_lists.specs.declared.turn.Turn.{Turn}
use Rattle.gc_lists.specs.declared.turn.Turn.TheVariants.{Member, Stops}
use Rattle.gc_lists.specs.Turns.{closed_by, is_head, turn_at, turn_by}
use Rattle.gc_lists.specs.Rings.{EndsAt, IsListedBy, IsMember, IsNoHead, IsTorn, Leads, Listed, Listing, list_at}
use Rattle.gc_lists.specs.Rings.{list_by, list_from}

-- ---- tests

same : (x y : ℕ) → nat_eq x y ≡ true → x ≡ y
same x y e = grind arith

itself : (x y : ℕ) → x ≡ y → nat_eq x y ≡ true
itself x y e = grind arith

differ : (x y : ℕ) → nat_eq x y ≡ false → x ≢ y
differ x y e h = let t = itself x y h in cc

others : (x y : ℕ) → x ≢ y → nat_eq x y ≡ false
others x y some = grind arith

is_in : (heads : List ℕ) (a : ℕ) → is_head heads a ≡ true → Contains heads a
is_in heads a e = Contains-from_any {eq = λ q y. nat_eq y q} (λ x y h. sym (same y x h)) a heads e

in_is : (heads : List ℕ) (a : ℕ) → Contains heads a → is_head heads a ≡ true
in_is heads a (k, lt, e) = list_any_at (λ h. nat_eq h a) heads k a lt (itself _ a e)

not_in : (heads : List ℕ) (a : ℕ) → is_head heads a ≡ false → Contains heads a → ⊥
not_in heads a e h = let t = in_is heads a h in cc

in_not : (heads : List ℕ) (a : ℕ) → (Contains heads a → ⊥) → is_head heads a ≡ false
in_not heads a never = by (is_head heads a) refl
  where
    by : (b : Bool) → is_head heads a ≡ b → b ≡ false
    by true e = absurd (never (is_in heads a e))
    by false e = refl

-- ---- lists

-- a list behind some members
abbrev pub behind : List ℕ → Listing → Listing
behind xs l = record { members = xs ++ l.members; end = l.end }

pub from_stops : (turn : ℕ → ℕ → Turn) (left before at : ℕ) (end : ListEnd) → turn before at ≡ Stops end → list_from turn left before at ≡ record { members = []; end = end }
unfolding list_from
from_stops turn zero before at end e = rw e refl
from_stops turn (suc left) before at end e = rw e refl

pub from_cut : (turn : ℕ → ℕ → Turn) (left before at next : ℕ) → left ≡ 0 → turn before at ≡ Member next → list_from turn left before at ≡ record { members = []; end = Cut at }
unfolding list_from
from_cut turn zero before at next none e = rw e refl
from_cut turn (suc left) before at next none e = absurd (omega (arith, none))

pub from_member : (turn : ℕ → ℕ → Turn) (left before at next : ℕ) → turn before at ≡ Member next → list_from turn (suc left) before at ≡ behind (at ∷ []) (list_from turn left at next)
unfolding list_from
from_member turn left before at next e = rw e refl

module _ (links : ℕ → Option Links) (heads : List ℕ) (head back : ℕ) where
  -- ---- what stands at an address

  turn_own : (before at : ℕ) → at ≡ head → turn_at links heads head back before at ≡ Stops (closed_by back before at)
  turn_own before at e = rw (itself at head e) refl

  turn_closed : (before at : ℕ) → at ≡ head → back ≡ before → turn_at links heads head back before at ≡ Stops Whole
  turn_closed before at e b = rw (itself at head e, itself back before b) refl

  turn_open : (before at : ℕ) → at ≡ head → back ≢ before → turn_at links heads head back before at ≡ Stops (Torn at)
  turn_open before at e b = rw (itself at head e, others back before b) refl

  turn_head : (before at : ℕ) → at ≢ head → is_head heads at ≡ true → turn_at links heads head back before at ≡ Stops (Torn at)
  turn_head before at e h = rw (others at head e, h) refl

  turn_links : (before at : ℕ) → IsNoHead heads head at → turn_at links heads head back before at ≡ turn_by (links at) before at
  turn_links before at (e, n) = rw (others at head e, in_not heads at n) refl

  by_same : (l : Links) (before at : ℕ) → l.back ≡ before → turn_by (Some l) before at ≡ Member l.next
  by_same l before at e = rw (itself l.back before e) refl

  by_other : (l : Links) (before at : ℕ) → l.back ≢ before → turn_by (Some l) before at ≡ Stops (Torn at)
  by_other l before at e = rw (others l.back before e) refl

  turn_member : (before at next : ℕ) → IsMember links heads head before at next → turn_at links heads head back before at ≡ Member next
  turn_member before at next h = turn_links before at h.apart ∙ ap (λ o. turn_by o before at) h.here
      ∙ by_same (record { next = next; back = before }) before at refl

  turn_torn : (before at : ℕ) → IsTorn links heads head back before at → turn_at links heads head back before at ≡ Stops (Torn at)
  turn_torn before at (inl h) = turn_open before at h.0 h.1
  turn_torn before at (inr (inl h)) = turn_head before at h.0 (in_is heads at h.1)
  turn_torn before at (inr (inr h)) = turn_links before at h.apart ∙ ap (λ o. turn_by o before at) h.here ∙ by_other h.found before at h.other

  -- a member, or how the list ends there
  abbrev IsTurn : ℕ → ℕ → Turn → Type 0
  IsTurn before at (Member next) = IsMember links heads head before at next
  IsTurn before at (Stops end) = (left : ℕ) → EndsAt links heads head back left before at end

  turn_is : (before at : ℕ) → IsTurn before at (turn_at links heads head back before at)
  turn_is before at = own (nat_eq at head) refl
    where
      closing : (b : Bool) → nat_eq back before ≡ b → at ≡ head → IsTurn before at (Stops (closed_by back before at))
      closing true e is = rw e (λ left. (is, same back before e))
      closing false e is = rw e (λ left. (refl, inl (is, differ back before e)))

      named : (l : Links) → links at ≡ Some l → IsNoHead heads head at → (b : Bool) → nat_eq l.back before ≡ b → IsTurn before at (turn_by (Some l) before at)
      named l is apart true e = rw e (record { apart = apart; here = is ∙ ap (λ k. Some (record { next = l.next; back = k })) (same l.back before e) })
      named l is apart false e = rw e (λ left. (refl, inr (inr (record { apart = apart; found = l; here = is; other = differ l.back before e }))))

      linked : IsNoHead heads head at → (o : Option Links) → links at ≡ o → IsTurn before at (turn_by o before at)
      linked apart None is = λ left. (refl, apart, is)
      linked apart (Some l) is = named l is apart (nat_eq l.back before) refl

      other : (b : Bool) → is_head heads at ≡ b → at ≢ head → IsTurn before at (turn_at links heads head back before at)
      other true e apart = rw (turn_head before at apart e) (λ left. (refl, inr (inl (apart, is_in heads at e))))
      other false e apart = rw (turn_links before at (apart, not_in heads at e)) (linked (apart, not_in heads at e) (links at) refl)

      own : (b : Bool) → nat_eq at head ≡ b → IsTurn before at (turn_at links heads head back before at)
      own true e = rw (turn_own before at (same at head e)) (closing (nat_eq back before) refl (same at head e))
      own false e = other (is_head heads at) refl (differ at head e)

  -- ---- what is followed is the list

  record Goes (left before at : ℕ) (list : Listing) : Type 0 where
    last : ℕ
    to : ℕ
    leads : Leads links heads head before at list.members last to
    within : length list.members ≤ left
    ends : EndsAt links heads head back (left - length list.members) last to list.end

  goes_ends : (left before at : ℕ) (end : ListEnd) → EndsAt links heads head back left before at end → Goes left before at (record { members = []; end = end })
  unfolding Leads
  goes_ends left before at end h = record {
    last = before;
    to = at;
    leads = (refl, refl);
    within = omega arith;
    ends = rw sub-zero h;
  }

  goes_on : (left before at next : ℕ) (l : Listing) → IsMember links heads head before at next → Goes left at next l → Goes (suc left) before at (behind (at ∷ []) l)
  unfolding Leads
  goes_on left before at next l h g =
      let fewer : suc left - length (at ∷ l.members) ≡ left - length l.members = omega arith in
      record {
        last = g.last;
        to = g.to;
        leads = (refl, next, h, g.leads);
        within = omega (arith, g.within);
        ends = rw fewer g.ends;
      }

  goes : (left before at : ℕ) → Goes left before at (list_from (turn_at links heads head back) left before at)
  goes zero before at = by (turn_at links heads head back before at) refl (turn_is before at)
    where
      by : (t : Turn) → turn_at links heads head back before at ≡ t → IsTurn before at t → Goes 0 before at (list_from (turn_at links heads head back) 0 before at)
      by (Member next) e h = rw (from_cut (turn_at links heads head back) 0 before at next refl e) (goes_ends 0 before at (Cut at) (refl, refl, next, h))
      by (Stops end) e h = rw (from_stops (turn_at links heads head back) 0 before at end e) (goes_ends 0 before at end (h 0))
  goes (suc left) before at = by (λ next. goes left at next) (turn_at links heads head back before at) refl (turn_is before at)
    where
      by : ((next : ℕ) → Goes left at next (list_from (turn_at links heads head back) left at next)) → (t : Turn) → turn_at links heads head back before at ≡ t → IsTurn before at t
          → Goes (suc left) before at (list_from (turn_at links heads head back) (suc left) before at)
      by rest (Member next) e h = rw (from_member (turn_at links heads head back) left before at next e) (goes_on left before at next (list_from (turn_at links heads head back) left at next) h (rest next))
      by rest (Stops end) e h = rw (from_stops (turn_at links heads head back) (suc left) before at end e) (goes_ends (suc left) before at end (h (suc left)))

  -- ---- and the list is what is followed, so that there is one alone

  ends_known : (left before at : ℕ) (end : ListEnd) → EndsAt links heads head back left before at end → list_from (turn_at links heads head back) left before at ≡ record { members = []; end = end }
  ends_known left before at Whole (is, closed) = from_stops (turn_at links heads head back) left before at Whole (turn_closed before at is closed)
  ends_known left before at (Torn a) (is, torn) = rw is (from_stops (turn_at links heads head back) left before at (Torn at) (turn_torn before at torn))
  ends_known left before at (Unreadable a) (is, apart, lost) =
      rw is (from_stops (turn_at links heads head back) left before at (Unreadable at) (turn_links before at apart ∙ ap (λ o. turn_by o before at) lost))
  ends_known left before at (Cut a) (is, full, next, h) = rw is (from_cut (turn_at links heads head back) left before at next full (turn_member before at next h))

  leads_known : (left before at : ℕ) (members : List ℕ) (last to : ℕ) → Leads links heads head before at members last to → length members ≤ left
      → list_from (turn_at links heads head back) left before at ≡ behind members (list_from (turn_at links heads head back) (left - length members) last to)
  unfolding Leads
  leads_known left before at [] last to (is, goes) within = rw (sub-zero, is, goes) refl
  leads_known zero before at (x ∷ xs) last to leads within = absurd (omega (arith, within))
  leads_known (suc left) before at (x ∷ xs) last to (is, next, h, leads) within =
      let fewer : suc left - length (x ∷ xs) ≡ left - length xs = omega arith in
      let rest = leads_known left x next xs last to leads (omega (arith, within)) in
      ap (list_from (turn_at links heads head back) (suc left) before) (sym is)
      ∙ from_member (turn_at links heads head back) left before x next (turn_member before x next h)
      ∙ ap (behind (x ∷ [])) rest ∙ rw fewer refl

pub listed_found : (links : ℕ → Option Links) (heads : List ℕ) (limit head : ℕ) → Listed links heads limit head (list_at links heads limit head)
listed_found links heads limit head = by (links head)
  where
    by : (o : Option Links) → IsListedBy o links heads limit head (list_by o links heads limit head)
    by None = (refl, refl)
    by (Some first) =
        let g = goes links heads head first.back limit head first.next in
        record { last = g.last; to = g.to; leads = g.leads; within = g.within; ends = g.ends }

pub listed_unique : (links : ℕ → Option Links) (heads : List ℕ) (limit head : ℕ) (list : Listing) → Listed links heads limit head list → list_at links heads limit head ≡ list
listed_unique links heads limit head list h = by (links head) h
  where
    by : (o : Option Links) → IsListedBy o links heads limit head list → list_by o links heads limit head ≡ list
    by None (none, end) = ap (λ ms. record { members = ms; end = Unreadable head }) (sym none) ∙ ap (λ e. record { members = list.members; end = e }) (sym end)
    by (Some first) r =
        leads_known links heads head first.back limit head first.next list.members r.last r.to r.leads r.within
        ∙ ap (behind list.members) (ends_known links heads head first.back (limit - length list.members) r.last r.to list.end r.ends)
        ∙ ap (λ ms. record { members = ms; end = list.end }) (append-nil list.members)
