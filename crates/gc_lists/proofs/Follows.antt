-- A list as it is followed, member by member.
use Rattle.std.proofs.Common.{◌≡◌, ◌≢◌, ℕ, suc, ◌+◌, ◌-◌, ◌≤◌, List, [], ◌∷◌, ◌++◌, length, refl, sym, ◌∙◌}
use Rattle.std.proofs.Common.{ap, arith, append-nil, append_assoc, length-append}
use Rattle.std.proofs.Math.Nat.{sub-zero}
use Rattle.process_memory.specs.Memory.{Memory}
use Rattle.process_memory.specs.Seen.{Reading, Seen}
use Rattle.process_memory.proofs.Reading.{reading_gives, reading_none, reading_then}
use Rattle.gc_lists.specs.declared.turn.ListEnd.{ListEnd}
use Rattle.gc_lists.specs.declared.turn.ListEnd.TheVariants.{Cut}
use Rattle.gc_lists.specs.declared.turn.Turn.{Turn}
use Rattle.gc_lists.specs.declared.turn.Turn.TheVariants.{Member, Stops}
use Rattle.gc_lists.specs.Rings.{Listing, list_from}
use Rattle.gc_lists.proofs.RingLaws.{behind, from_cut, from_member, from_stops}

-- a list of which these members were met so far; the last of what was met is `before`, which leads to `at`. What stands
-- at an address is given
pub record Following (turn : Memory → ℕ → ℕ → Turn) (limit head first : ℕ) (old new : Seen) (members : List ℕ) (before at : ℕ)
    : Type 0 where
  pub within : length members ≤ limit
  pub reading : Reading (length members) old new (λ m. list_from (turn m) limit head first
      ≡ behind members (list_from (turn m) (limit - length members) before at))

behind_twice : (xs ys : List ℕ) (l : Listing) → behind xs (behind ys l) ≡ behind (xs ++ ys) l
behind_twice xs ys l = ap (λ ms. record { members = ms; end = l.end }) (sym (append_assoc xs ys l.members))

behind_none : (xs : List ℕ) (end : ListEnd) → behind xs (record { members = []; end = end }) ≡ record { members = xs; end = end }
behind_none xs end = ap (λ ms. record { members = ms; end = end }) (append-nil xs)

module _ {turn : Memory → ℕ → ℕ → Turn} {limit head first : ℕ} where
  pub following_init : (s : Seen) (members : List ℕ) → members ≡ [] → Following turn limit head first s s members head first
  following_init s members none = rw none (record {
    within = omega arith;
    reading = reading_none _ s _ (λ m. rw sub-zero refl);
  })

  module _ {s0 s1 s2 : Seen} {members : List ℕ} {before at : ℕ} where
    pub following_more : {next : ℕ} (more : List ℕ) → Following turn limit head first s0 s1 members before at → length members ≢ limit
        → Reading 1 s1 s2 (λ m. Member next ≡ turn m before at) → more ≡ members ++ at ∷ [] → Following turn limit head first s0 s2 more at next
    following_more {next} more w some r is =
        let left : limit - length members ≡ suc (limit - length (members ++ at ∷ [])) = omega (arith, w.within, some, length-append members (at ∷ [])) in
        rw is (record {
          within = omega (arith, w.within, some, length-append members (at ∷ []));
          reading = reading_gives _ _
              (reading_then (λ m. list_from (turn m) limit head first ≡ behind (members ++ at ∷ []) (list_from (turn m) (limit - length (members ++ at ∷ [])) at next))
              w.reading r
              (λ m p q. p ∙ ap (behind members) (ap (λ k. list_from (turn m) k before at) left ∙ from_member (turn m) (limit - length (members ++ at ∷ [])) before at next (sym q))
              ∙ behind_twice members (at ∷ []) (list_from (turn m) (limit - length (members ++ at ∷ [])) at next)))
              (omega (arith, length-append members (at ∷ []))) (λ m h. h);
        })

    pub following_stops : (end : ListEnd) → Following turn limit head first s0 s1 members before at → Reading 1 s1 s2 (λ m. Stops end ≡ turn m before at)
        → Reading (length members + 1) s0 s2 (λ m. record { members = members; end = end } ≡ list_from (turn m) limit head first)
    following_stops end w r = reading_then (λ m. record { members = members; end = end } ≡ list_from (turn m) limit head first) w.reading r
        (λ m p q. sym (p ∙ ap (behind members) (from_stops (turn m) (limit - length members) before at end (sym q)) ∙ behind_none members end))

    pub following_full : {next : ℕ} → Following turn limit head first s0 s1 members before at → length members ≡ limit → Reading 1 s1 s2 (λ m. Member next ≡ turn m before at)
        → Reading (length members + 1) s0 s2 (λ m. record { members = members; end = Cut at } ≡ list_from (turn m) limit head first)
    following_full {next} w full r = reading_then (λ m. record { members = members; end = Cut at } ≡ list_from (turn m) limit head first) w.reading r
        (λ m p q. sym (p ∙ ap (behind members) (from_cut (turn m) (limit - length members) before at next (omega (arith, full)) (sym q)) ∙ behind_none members (Cut at)))

    -- memory was wanting
    pub following_lost : {P : Memory → Type 0} (Q : Memory → Type 0) → Following turn limit head first s0 s1 members before at → Reading 1 s1 s2 P → ((m : Memory) → Q m)
        → Reading (limit + 1) s0 s2 Q
    following_lost Q w r q = reading_gives _ _ (reading_then Q w.reading r (λ m a b. q m)) (omega (arith, w.within)) (λ m h. h)
