-- Discovery, one object after another.
use Rattle.std.proofs.Common.{◌≡◌, ◌≢◌, ℕ, ◌+◌, ◌*◌, ◌-◌, ◌<◌, ◌≤◌, ◌⊎◌, List, [], ◌∷◌, ◌++◌, length, map, refl, sym}
use Rattle.std.proofs.Common.{◌∙◌, ap}
use Rattle.std.proofs.Common.{arith, append_assoc, append-nil, length-append, take, get_or, inl, inr, Bool, true, false}
use Rattle.std.specs.Prelude.{nat_le}
use Rattle.std.proofs.lemmas.Bool.Decides.{nat_tests}
use Rattle.std.specs.List.{concat}
use Rattle.std.proofs.lemmas.Grind.{take_at_read}
use Rattle.std.proofs.lemmas.List.{length-map, map-append, take-append-le, take_all}
use Rattle.process_memory.specs.Memory.{Memory}
use Rattle.process_memory.specs.Seen.{Reading, Seen}
use Rattle.process_memory.proofs.Reading.{reading_gives, reading_none, reading_then}
use Rattle.thread_exceptions.specs.declared.discovery.Met as read
use Rattle.thread_exceptions.specs.declared.exception.What as read_what
use Rattle.thread_exceptions.specs.Discovery.{AreMet, Met, addr_of, found_by, gather, met_at, met_leads, met_of}
use Rattle.thread_exceptions.specs.Exceptions.{What, leads, what_of}
use Rattle.thread_exceptions.proofs.Gathering.{Grows, gather_append, gather_grows}

abbrev addrs : List Met → List ℕ
addrs all = map (λ x. addr_of x) all

-- what all objects but the last lead to, and what that one leads to
leads_push : (roots : List ℕ) (all : List Met) (x : Met)
    → roots ++ concat (map (λ y. met_leads y) (all ++ x ∷ [])) ≡
    (roots ++ concat (map (λ y. met_leads y) all)) ++ met_leads x
leads_push roots [] x = rw (append-nil roots, append-nil (met_leads x)) refl
leads_push roots (y ∷ ys) x =
    sym (append_assoc roots (met_leads y) (concat (map (λ z. met_leads z) (ys ++ x ∷ []))))
    ∙ leads_push (roots ++ met_leads y) ys x
    ∙ ap (λ t. t ++ met_leads x) (append_assoc roots (met_leads y) (concat (map (λ z. met_leads z) ys)))

pub found_push : (limit : ℕ) (roots : List ℕ) (all : List Met) (x : Met)
    → found_by limit roots (all ++ x ∷ []) ≡ gather limit (found_by limit roots all) (met_leads x)
found_push limit roots all x = ap (gather limit []) (leads_push roots all x)
    ∙ gather_append limit [] (roots ++ concat (map (λ y. met_leads y) all)) (met_leads x)

split : (n k : ℕ) → k < n + 1 → (k < n) ⊎ (k ≡ n)
split n k below = by (nat_le n k) refl
  where
    by : (b : Bool) → nat_le n k ≡ b → (k < n) ⊎ (k ≡ n)
    by true e = let le : n ≤ k = grind (arith, nat_tests) in inr (omega (arith, le, below))
    by false e = inl (grind (arith, nat_tests))

-- some objects are met, and what these lead to is found
pub record Discovering (what : Memory → ℕ → What) (limit : ℕ) (roots : List ℕ) (s0 s1 : Seen) (found : List ℕ)
    (all : List Met) : Type 0 where
  pub within : length found ≤ limit
  pub fewer : length all ≤ length found
  pub done : take (length all) found ≡ map (λ x. addr_of x) all
  pub is : found ≡ found_by limit roots all
  pub reached : (k : ℕ) → k < length all → k < length (found_by limit roots (take k all))
  pub reading : Reading (263 * length all) s0 s1 (λ m. all ≡ map (λ a. met_at (what m) a) (map (λ x. addr_of x) all))

pub discovering_init : (what : Memory → ℕ → What) (limit : ℕ) (roots found : List ℕ) (s : Seen)
    → found ≡ gather limit [] roots
    → Discovering what limit roots s s found []
discovering_init what limit roots found s e = record {
  within = rw e ((gather_grows limit [] roots).within (omega arith));
  fewer = omega arith;
  done = refl;
  is = rw (append-nil roots) e;
  reached = λ k lt. absurd (omega (arith, lt));
  reading = reading_none _ s _ (λ m. refl);
}

module _ {what : Memory → ℕ → What} {limit : ℕ} {roots : List ℕ} {s0 s1 : Seen} {found : List ℕ} {all : List Met} where
  pub discovering_more : {s2 : Seen} (more : List ℕ) (a e0 : ℕ) (w : What)
      → Discovering what limit roots s0 s1 found all
      → length all < length found → a ≡ get_or found (length all) e0 → more ≡ gather limit found (leads w)
      → Reading 263 s1 s2 (λ m. w ≡ what m a)
      → Discovering what limit roots s0 s2 more (all ++ record { addr = a; what = w } ∷ [])
  discovering_more {s2 = s2} more a e0 w d lt at e r = record {
    within = rw e (grown.within d.within);
    fewer = omega (arith, lt, long, ap length is_more, length-append found grown.added);
    done = rw count (ap (take (length all + 1)) is_more
        ∙ take-append-le (length all + 1) found grown.added (omega (arith, lt))
        ∙ (take_at_read found (length all) e0 lt).1 ∙ ap (λ t. t ++ get_or found (length all) e0 ∷ []) d.done
        ∙ ap (λ y. addrs all ++ y ∷ []) (sym at) ∙ sym (map-append (λ x. addr_of x) all (one ∷ [])));
    is = e ∙ ap (λ f. gather limit f (leads w)) d.is ∙ sym (found_push limit roots all one);
    reached = reached;
    reading = reading_gives _ _ (reading_then (λ m. all ++ one ∷ [] ≡ map (λ x. met_at (what m) x)
        (addrs (all ++ one ∷ []))) d.reading r
        (λ m p q. ap (λ t. t ++ one ∷ []) p
        ∙ ap (λ y. map (λ x. met_at (what m) x) (addrs all) ++ record { addr = a; what = y } ∷ []) q
        ∙ sym (map-append (λ x. met_at (what m) x) (addrs all) (a ∷ []))
        ∙ ap (map (λ x. met_at (what m) x)) (sym (map-append (λ x. addr_of x) all (one ∷ [])))))
        (omega (arith, long)) (λ m h. h);
  }
    where
      one : Met
      one = record { addr = a; what = w }

      grown : Grows limit found (gather limit found (leads w))
      grown = gather_grows limit found (leads w)

      is_more : more ≡ found ++ grown.added
      is_more = e ∙ grown.is

      long : length (all ++ one ∷ []) ≡ length all + 1
      long = omega (arith, length-append all (one ∷ []))

      count : length (all ++ one ∷ []) ≡ length all + 1
      count = long

      reached : (k : ℕ) → k < length (all ++ one ∷ []) → k < length (found_by limit roots (take k (all ++ one ∷ [])))
      reached k below = elim (split (length all) k (omega (arith, long, below))) [
        | inl less ↦ rw (take-append-le k all (one ∷ []) (omega (arith, less))) (d.reached k less)
        | inr same ↦ rw same (rw (
          take-append-le (length all) all (one ∷ []) (omega arith),
          take_all (length all) all
              (omega arith),
          ← d.is,
        ) lt)
      ]

  pub discovering_done : Discovering what limit roots s0 s1 found all → length found ≤ length all
      → Reading (263 * limit) s0 s1 (λ m. AreMet (what m) limit roots all)
  discovering_done d full = reading_gives _ _ d.reading (omega (arith, d.within, d.fewer)) (λ m e. record {
    each = e;
    whole = sym d.done ∙ take_all (length all) found full ∙ d.is;
    reached = d.reached;
  })

  -- memory was wanting
  pub discovering_lost : {n : ℕ} {s2 : Seen} {P : Memory → Type 0} (Q : Memory → Type 0)
      → Discovering what limit roots s0 s1 found all
      → length all < length found → Reading n s1 s2 P → n ≤ 263 → ((m : Memory) → Q m) → Reading (263 * limit) s0 s2 Q
  discovering_lost Q d lt r few q = reading_gives _ _ (reading_then Q d.reading r (λ m a b. q m))
      (omega (arith, d.within, lt, few)) (λ m h. h)

-- ---- the same of objects as they are read

same_length : (all : List read.Met) → length (map (λ x. met_of x) all) ≡ length all
same_length all = length-map all (λ x. met_of x)

module _ {what : Memory → ℕ → What} {limit : ℕ} {roots : List ℕ} {s0 s1 : Seen} {found : List ℕ}
    (all : List read.Met) where
  pub discovering_push : {s2 : Seen} (more : List ℕ) (longer : List read.Met) (a e0 : ℕ) (w : read_what.What) (n : ℕ)
      → Discovering what limit roots s0 s1 found (map (λ x. met_of x) all)
      → length all < length found → n ≡ length all → a ≡ get_or found n e0
      → more ≡ gather limit found (leads (what_of w))
      → Reading 263 s1 s2 (λ m. what_of w ≡ what m a) → longer ≡ all ++ record { addr = a; what = w } ∷ []
      → Discovering what limit roots s0 s2 more (map (λ x. met_of x) longer)
  discovering_push more longer a e0 w n d lt count at e r is =
      rw (ap (map (λ x. met_of x)) is ∙ map-append (λ x. met_of x) all (record { addr = a; what = w } ∷ []))
      (discovering_more more a e0 (what_of w) d (rw (same_length all) lt)
      (at ∙ ap (λ k. get_or found k e0) (count ∙ sym (same_length all))) e r)

  pub discovering_end : Discovering what limit roots s0 s1 found (map (λ x. met_of x) all) → length found ≤ length all
      → Reading (263 * limit) s0 s1 (λ m. AreMet (what m) limit roots (map (λ x. met_of x) all))
  discovering_end d full = discovering_done d (rw (same_length all) full)

  pub discovering_fails : {n : ℕ} {s2 : Seen} {P : Memory → Type 0} (Q : Memory → Type 0)
      → Discovering what limit roots s0 s1 found (map (λ x. met_of x) all)
      → length all < length found → Reading n s1 s2 P → n ≤ 263 → ((m : Memory) → Q m) → Reading (263 * limit) s0 s2 Q
  discovering_fails Q d lt r few q = discovering_lost Q d (rw (same_length all) lt) r few q
