-- Walks along a thread's chain, member by member.
use Rattle.std.proofs.Common.{◌≡◌, ◌≢◌, ℕ, suc, ◌+◌, ◌-◌, ◌<◌, ◌≤◌, Bool, true, false, List, [], ◌∷◌, ◌++◌, length}
use Rattle.std.proofs.Common.{refl, sym, ◌∙◌, ap, arith, length-append}
use Rattle.std.proofs.Math.Nat.{sub-zero}
use Rattle.std.specs.List.{filter}
use Rattle.std.specs.Prelude.{Ok}
use Rattle.std.proofs.lemmas.List.Elements.{filter-append}
use Rattle.process_memory.specs.Memory.{Memory, byte_at}
use Rattle.process_memory.specs.Seen.{Reading, Seen}
use Rattle.process_memory.proofs.Reading.{reading_gives, reading_here, reading_none, reading_then}
use Rattle.py_fields.specs.declared.layout.Layout.{Layout}
use Rattle.py_stacks.specs.declared.error.StackError.{StackError}
use Rattle.py_stacks.specs.declared.error.StackError.TheVariants.{OutOfMemory}
use Rattle.py_fronts.specs.declared.chain_end.ChainEnd.{ChainEnd}
use Rattle.py_fronts.specs.declared.members.Step.TheVariants as step
use Rattle.py_fronts.specs.ChainEnds.{ending_of}
use Rattle.py_fronts.specs.Front.{Ending, Front, behind, front_at}
use Rattle.py_fronts.specs.Front.Ending.{Whole, Cut}
use Rattle.py_fronts.specs.Members.{Chained, Meeting, StepIs, caller_of, chain_reads, is_kept, kept_if, kept_of}
use Rattle.py_fronts.specs.Members.{members_front}
use Rattle.py_fronts.proofs.FrontLaws.{behind_ends, behind_more, front_end, front_full, front_stop}

one_kept : (l : Layout) (m : Memory) (a : ℕ) (stands : Bool) → stands ≡ is_kept l m a → kept_if stands a ≡ filter (is_kept l m) (a ∷ [])
one_kept l m a true e = rw (← e) refl
one_kept l m a false e = rw (← e) refl

pub meet_init : (l : Layout) (limit first : ℕ) (s : Seen) → Meeting l limit first s s [] 0 first
meet_init l limit first s = record {
  members = [];
  within = omega arith;
  reading = reading_none _ s _ (λ m. (rw sub-zero refl, refl, refl));
}

meet_ends : (l : Layout) (limit first : ℕ) (kept : List ℕ) (met : ℕ) (m : Memory) (ending : Ending) (members : List ℕ) → members_front l m limit first ≡ record { members = members; ending = ending }
    → kept ≡ filter (is_kept l m) members → length members ≡ met → ◌≡◌ {A = Chained} (record { kept = kept; met = met; ending = ending }) (kept_of l m (members_front l m limit first))
meet_ends l limit first kept met m ending members front keeps count = rw (front, keeps, count) refl

module _ {l : Layout} {limit first : ℕ} {s0 s1 : Seen} {kept : List ℕ} {met at : ℕ} where
  pub meet_more : {s2 : Seen} {back : ℕ} {stands : Bool} {more : List ℕ} → Meeting l limit first s0 s1 kept met at → at ≢ 0 → met < limit
      → Reading 5 s1 s2 (λ m. StepIs (caller_of l m at) (is_kept l m at) (Ok (step.To back stands))) → more ≡ kept ++ kept_if stands at
      → Meeting l limit first s0 s2 more (met + 1) back
  meet_more {back = back} {stands = stands} {more = more} w some below r adds =
      let left : limit - met ≡ suc (limit - (met + 1)) = omega arith in
      record {
        members = w.members ++ at ∷ [];
        within = omega arith;
        reading = reading_gives _ _ (reading_then (λ m. (members_front l m limit first ≡ behind (w.members ++ at ∷ []) (members_front l m (limit - (met + 1)) back))
            × (more ≡ filter (is_kept l m) (w.members ++ at ∷ [])) × (length (w.members ++ at ∷ []) ≡ met + 1)) w.reading r
            (λ m p q. (
              behind_more (caller_of l m) (limit - (met + 1)) w.members (members_front l m limit first) at back some q.0 (rw left at p.0),
              adds ∙ ap (λ ks. ks ++ kept_if stands at) p.1 ∙ ap (λ ks. filter (is_kept l m) w.members ++ ks) (one_kept l m at stands q.1) ∙ sym (filter-append (is_kept l m) w.members (at ∷ [])),
              omega (arith, length-append w.members (at ∷ []), p.2),
            )))
            (omega arith) (λ m h. h);
      }

  -- those that were met are members of the chain, whatever comes behind them
  met_within : Meeting l limit first s0 s1 kept met at → met ≤ length (members_front l (byte_at s0.pieces) limit first).members
  met_within w =
      let p = reading_here w.reading in
      let rest = members_front l (byte_at s0.pieces) (limit - met) at in
      omega (arith, ap (λ (f : Front). length f.members) p.0, length-append w.members rest.members, p.2)

  -- the chain is whole
  pub meet_done : Meeting l limit first s0 s1 kept met at → at ≡ 0
      → Reading (chain_reads l (byte_at s0.pieces) limit first) s0 s1 (λ m. record { kept = kept; met = met; ending = Whole } ≡ kept_of l m (members_front l m limit first))
  meet_done w null = reading_gives _ _ w.reading (omega (arith, met_within w))
      (λ m p. meet_ends l limit first kept met m Whole w.members (behind_ends (caller_of l m) (limit - met) w.members (members_front l m limit first) at Whole (front_end (caller_of l m) (limit - met) at null) p.0) p.1 p.2)

  -- a further member is there, and no more may be met
  pub meet_full : Meeting l limit first s0 s1 kept met at → at ≢ 0 → met ≡ limit
      → Reading (chain_reads l (byte_at s0.pieces) limit first) s0 s1 (λ m. record { kept = kept; met = met; ending = Cut } ≡ kept_of l m (members_front l m limit first))
  meet_full w some full =
      let none : limit - met ≡ 0 = omega arith in
      reading_gives _ _ w.reading (omega (arith, met_within w))
      (λ m p. meet_ends l limit first kept met m Cut w.members (behind_ends (caller_of l m) 0 w.members (members_front l m limit first) at Cut (front_full (caller_of l m) at some) (rw none at p.0)) p.1 p.2)

  -- what is there is none
  pub meet_broken : {s2 : Seen} (end : ChainEnd) → Meeting l limit first s0 s1 kept met at → at ≢ 0 → met < limit
      → Reading 5 s1 s2 (λ m. StepIs (caller_of l m at) (is_kept l m at) (Ok (step.Broken end)))
      → Reading (chain_reads l (byte_at s0.pieces) limit first) s0 s2 (λ m. record { kept = kept; met = met; ending = ending_of end } ≡ kept_of l m (members_front l m limit first))
  meet_broken end w some below r =
      let left : limit - met ≡ suc (limit - (met + 1)) = omega arith in
      reading_gives _ _ (reading_then (λ m. record { kept = kept; met = met; ending = ending_of end } ≡ kept_of l m (members_front l m limit first)) w.reading r
      (λ m p q.
      let stops = front_stop (caller_of l m) (limit - (met + 1)) at q.0 some q.1 in
      let is : front_at (caller_of l m) (suc (limit - (met + 1))) at ≡ record { members = []; ending = ending_of end } = stops ∙ ap (λ (e : Ending). record { members = []; ending = e }) (sym q.2) in
      meet_ends l limit first kept met m (ending_of end) w.members (behind_ends (caller_of l m) (suc (limit - (met + 1))) w.members (members_front l m limit first) at (ending_of end) is (rw left at p.0)) p.1 p.2))
      (omega (arith, met_within w)) (λ m h. h)

  -- memory was wanting
  pub meet_lost : {s2 : Seen} {P : Memory → Type 0} (e : StackError) → Meeting l limit first s0 s1 kept met at → met < limit → Reading 5 s1 s2 P → ((m : Memory) → P m → e ≡ OutOfMemory)
      → Reading (chain_reads l (byte_at s0.pieces) limit first) s0 s2 (λ m. e ≡ OutOfMemory)
  meet_lost e w below r lost = reading_gives _ _ (reading_then (λ m. e ≡ OutOfMemory) w.reading r (λ m p q. lost m q)) (omega (arith, met_within w)) (λ m h. h)
