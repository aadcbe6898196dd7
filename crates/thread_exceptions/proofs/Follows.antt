-- A chain as it is followed, step by step.
use Rattle.std.proofs.Common.{◌≡◌, ◌≢◌, ℕ, suc, ◌+◌, ◌*◌, ◌-◌, ◌≤◌, false, true, List, [], ◌∷◌, ◌++◌, length, refl}
use Rattle.std.proofs.Common.{sym, ◌∙◌}
use Rattle.std.proofs.Common.{ap, arith, inl, inr, ◌↔◌, ◌⊎◌, append-nil, length-append}
use Rattle.std.proofs.Math.Nat.{sub-zero}
use Rattle.std.specs.List.{Contains}
use Rattle.std.proofs.lemmas.List.Elements.{Contains-append_left, Contains-push, Contains-push_cases}
use Rattle.process_memory.specs.Memory.{Memory}
use Rattle.process_memory.specs.Seen.{Reading, Seen}
use Rattle.process_memory.proofs.Reading.{reading_gives, reading_none, reading_then}
use Rattle.thread_exceptions.specs.Links.{Chain, End, Stop, Turn, behind, chain_from, has}
use Rattle.thread_exceptions.specs.Links.End.{Stops, Cycle, Cut}
use Rattle.thread_exceptions.specs.Links.Turn.{To, Last, Before}
use Rattle.thread_exceptions.specs.Turns.{Following}
use Rattle.std.specs.BTreeSet.{BTreeSet, contains}
use Rattle.std.specs.Ordering.{nat_cmp}
use Rattle.thread_exceptions.proofs.Repeats.{contains_has, has_no}
use Rattle.thread_exceptions.proofs.Sorted.{has_set}
use Rattle.thread_exceptions.proofs.ChainLaws.{behind_twice, from_before, from_cut, from_last, from_met, from_to}

pub following_init : (turn : Memory → ℕ → Turn) (limit head : ℕ) (s : Seen) (met : List ℕ) → met ≡ []
    → Following turn limit head s s [] met head
following_init turn limit head s met none = record {
  within = omega arith;
  same = λ a. rw none ((λ h. h), (λ h. h));
  reading = reading_none _ s _ (λ m. rw (sub-zero) refl);
}

-- a chain that ends where it was followed to
ends_behind : (xs last : List ℕ) (c d : Chain) (end : End) → c ≡ behind xs d
    → d ≡ record { members = last; end = end } → record { members = xs ++ last; end = end } ≡ c
ends_behind xs last c d end e h = sym (e ∙ ap (behind xs) h)

ends_bare : (xs : List ℕ) (c d : Chain) (end : End) → c ≡ behind xs d → d ≡ record { members = []; end = end }
    → record { members = xs; end = end } ≡ c
ends_bare xs c d end e h = ap (λ ms. record { members = ms; end = end }) (sym (append-nil xs))
    ∙ ends_behind xs [] c d end e h

module _ {turn : Memory → ℕ → Turn} {limit head : ℕ} {s0 s1 : Seen} {members met : List ℕ} {at : ℕ} where
  pub following_more : {s2 : Seen} {next : ℕ} (more : List ℕ) → Following turn limit head s0 s1 members met at
      → has members at ≡ false → length members ≢ limit → Reading 1 s1 s2 (λ m. To next ≡ turn m at)
      → ((a : ℕ) → Contains more a ↔ (Contains met a ⊎ (a ≡ at)))
      → Following turn limit head s0 s2 (members ++ at ∷ []) more next
  following_more {next = next} more w new some r adds =
      let left : limit - length members ≡ suc (limit - length (members ++ at ∷ [])) = omega
      (arith, w.within, length-append members (at ∷ [])) in
      record {
        within = omega (arith, w.within, length-append members (at ∷ []));
        same = λ a. (
          λ h. elim ((adds a).0 h) [
            | inl e ↦ Contains-append_left members (at ∷ []) a ((w.same a).0 e)
            | inr e ↦ rw e
                (Contains-push members at)
          ],
          λ h. (adds a).1 (elim (Contains-push_cases members at a h) [
            | inl e ↦ inl ((w.same a).1 e)
            | inr e ↦ inr
                (sym e)
          ]),
        );
        reading = reading_gives _ _ (reading_then (λ m. chain_from (turn m) [] limit head ≡ behind
            (members ++ at ∷ []) (chain_from (turn m) (members ++ at ∷ []) (limit - length (members ++ at ∷ [])) next))
            w.reading r
            (λ m p q. p ∙ ap (behind members) (ap (λ k. chain_from (turn m) members k at) left
            ∙ from_to (turn m) members (limit - length (members ++ at ∷ [])) at next new (sym q))
            ∙ behind_twice members (at ∷ []) (chain_from (turn m) (members ++ at ∷ [])
            (limit - length (members ++ at ∷ [])) next)))
            (omega (arith, length-append members (at ∷ []))) (λ m h. h);
      }

  pub following_met : Following turn limit head s0 s1 members met at → has members at ≡ true
      → Reading (limit + 1) s0 s1 (λ m. record { members = members; end = Cycle at } ≡ chain_from
      (turn m) [] limit head)
  following_met w met = reading_gives _ _ w.reading (omega (arith, w.within))
      (λ m p. ends_bare members _ (chain_from (turn m) members (limit - length members) at) (Cycle at) p
      (from_met (turn m) members (limit - length members) at met))

  pub following_full : Following turn limit head s0 s1 members met at → has members at ≡ false → length members ≡ limit
      → Reading (limit + 1) s0 s1 (λ m. record { members = members; end = Cut at } ≡ chain_from (turn m) [] limit head)
  following_full w new full = reading_gives _ _ w.reading (omega (arith, w.within))
      (λ m p. ends_bare members _ (chain_from (turn m) members (limit - length members) at) (Cut at) p
      (from_cut (turn m) members (limit - length members) at new (omega (arith, full))))

  pub following_before : {s2 : Seen} (why : Stop) → Following turn limit head s0 s1 members met at
      → has members at ≡ false → length members ≢ limit → Reading 1 s1 s2 (λ m. Before why ≡ turn m at)
      → Reading (limit + 1) s0 s2 (λ m. record { members = members; end = Stops why } ≡ chain_from
      (turn m) [] limit head)
  following_before why w new some r =
      let left : limit - length members ≢ 0 = omega (arith, w.within) in
      reading_gives _ _ (reading_then (λ m. record { members = members; end = Stops why } ≡ chain_from
      (turn m) [] limit head) w.reading r
      (λ m p q. ends_bare members _ (chain_from (turn m) members (limit - length members) at) (Stops why) p
      (from_before (turn m) members (limit - length members) at why new left (sym q))))
      (omega (arith, w.within)) (λ m h. h)

  pub following_last : {s2 : Seen} {more : List ℕ} (why : Stop) → Following turn limit head s0 s1 members met at
      → has members at ≡ false → length members ≢ limit → Reading 1 s1 s2 (λ m. Last why ≡ turn m at)
      → more ≡ members ++ at ∷ []
      → Reading (limit + 1) s0 s2 (λ m. record { members = more; end = Stops why } ≡ chain_from
      (turn m) [] limit head)
  following_last {more = more} why w new some r is =
      let left : limit - length members ≢ 0 = omega (arith, w.within) in
      reading_gives _ _ (reading_then (λ m. record { members = more; end = Stops why } ≡ chain_from
      (turn m) [] limit head) w.reading r
      (λ m p q. ap (λ (ms : List ℕ). record { members = ms; end = Stops why }) is
      ∙ ends_behind members (at ∷ []) _ (chain_from (turn m) members (limit - length members) at) (Stops why) p
      (from_last (turn m) members (limit - length members) at why new left (sym q))))
      (omega (arith, w.within)) (λ m h. h)

  -- memory was wanting
  pub following_lost : {n : ℕ} {s2 : Seen} {P : Memory → Type 0} (Q : Memory → Type 0)
      → Following turn limit head s0 s1 members met at → length members ≢ limit → Reading n s1 s2 P → n ≤ 1
      → ((m : Memory) → Q m)
      → Reading (limit + 1) s0 s2 Q
  following_lost Q w some r few q = reading_gives _ _ (reading_then Q w.reading r (λ m a b. q m))
      (omega (arith, w.within, few)) (λ m h. h)

module _ {turn : Memory → ℕ → Turn} {limit head : ℕ} {s0 s1 : Seen} {members : List ℕ} {at : ℕ} where
  -- the set says whether the object was met
  pub known_met : (s : BTreeSet ℕ) → Following turn limit head s0 s1 members s.keys at → contains nat_cmp s at ≡ true
      → has members at ≡ true
  known_met s w e = contains_has members at ((w.same at).0 ((has_set s at).0 e))

  pub known_new : (s : BTreeSet ℕ) → Following turn limit head s0 s1 members s.keys at → contains nat_cmp s at ≡ false
      → has members at ≡ false
  known_new s w e = has_no members at (λ h. let t = (has_set s at).1 ((w.same at).1 h) in cc)
