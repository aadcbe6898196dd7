-- There is one list alone of what is met.
use Rattle.std.proofs.Common.{◌≡◌, ℕ, zero, suc, ◌+◌, ◌<◌, ◌≤◌, List, [], ◌∷◌, ◌++◌, length, map, take, drop, get_or}
use Rattle.std.proofs.Common.{refl, sym, ◌∙◌, ap, arith, append_assoc, append-nil, length-append}
use Rattle.std.specs.Prelude.{Ok, Err, Result, IfOk, Vec}
use Rattle.std.specs.Global.{Global}
use Rattle.std.proofs.lemmas.Grind.{take_at_read}
use Rattle.std.proofs.lemmas.List.{get_or-map, get_or_append_left, length-map, take-append-drop, take_all}
use Rattle.thread_exceptions.specs.declared.discovery.Met as read
use Rattle.thread_exceptions.specs.declared.error.ExceptionsError.{ExceptionsError}
use Rattle.thread_exceptions.specs.Discovery.{AreMet, Met, addr_of, found_by, gather, met_at, met_leads, met_of}
use Rattle.thread_exceptions.specs.Exceptions.{What}
use Rattle.thread_exceptions.proofs.Discoveries.{found_push}
use Rattle.thread_exceptions.proofs.Gathering.{gather_grows}

abbrev addrs : List Met → List ℕ
addrs all = map (λ x. addr_of x) all

record Front (found more : List ℕ) : Type 0 where
  added : List ℕ
  is : more ≡ found ++ added

-- what the first objects lead to is found first
found_front : (limit : ℕ) (roots : List ℕ) (xs ys : List Met)
    → Front (found_by limit roots xs) (found_by limit roots (xs ++ ys))
found_front limit roots xs [] = record {
  added = [];
  is = ap (found_by limit roots) (append-nil xs) ∙ sym (append-nil (found_by limit roots xs));
}
found_front limit roots xs (y ∷ ys) =
    let one = gather_grows limit (found_by limit roots xs) (met_leads y) in
    let rest = found_front limit roots (xs ++ y ∷ []) ys in
    let step : found_by limit roots (xs ++ y ∷ []) ≡ found_by limit roots xs ++ one.added
    = found_push limit roots xs y ∙ one.is in
    record {
      added = one.added ++ rest.added;
      is = ap (found_by limit roots) (sym (append_assoc xs (y ∷ []) ys)) ∙ rest.is ∙ ap (λ f. f ++ rest.added) step
          ∙ append_assoc (found_by limit roots xs) one.added rest.added;
    }

nobody : Met
nobody = record { addr = 0; what = What.Other }

module _ (what : ℕ → What) (limit : ℕ) (roots : List ℕ) where
  front : (all : List Met) (k : ℕ) → Front (found_by limit roots (take k all)) (found_by limit roots all)
  front all k =
      let f = found_front limit roots (take k all) (drop k all) in
      record { added = f.added; is = ap (found_by limit roots) (sym (take-append-drop k all)) ∙ f.is }

  -- the address of an object is told by those before it
  kth : (all : List Met) (k : ℕ) → AreMet what limit roots all → k < length all
      → get_or (addrs all) k 0 ≡ get_or (found_by limit roots (take k all)) k 0
  kth all k h lt =
      let f = front all k in
      ap (λ t. get_or t k 0) (h.whole ∙ f.is)
      ∙ get_or_append_left (found_by limit roots (take k all)) f.added 0 k (h.reached k lt)

  longer : (all : List Met) (k : ℕ) → AreMet what limit roots all
      → length (found_by limit roots (take k all)) ≤ length all
  longer all k h =
      let f = front all k in
      omega (
        arith,
        ap length (h.whole ∙ f.is),
        length-append (found_by limit roots (take k all)) f.added,
        length-map all (λ x. addr_of x),
      )

  object : (all : List Met) (k : ℕ) → AreMet what limit roots all → k < length all
      → get_or all k nobody ≡ met_at what (get_or (addrs all) k 0)
  object all k h lt =
      ap (λ t. get_or t k nobody) h.each
      ∙ get_or-map (λ a. met_at what a) (addrs all) k 0 nobody (omega (arith, lt, length-map all (λ x. addr_of x)))

  same : (xs ys : List Met) → AreMet what limit roots xs → AreMet what limit roots ys → (k : ℕ) → k ≤ length xs
      → (take k xs ≡ take k ys) × (k ≤ length ys)
  same xs ys hx hy zero le = (refl, omega arith)
  same xs ys hx hy (suc k) le =
      let lt : k < length xs = omega (arith, le) in
      let so_far = same xs ys hx hy k (omega (arith, le)) in
      let few : length (found_by limit roots (take k xs)) ≡ length (found_by limit roots (take k ys))
      = ap (λ t. length (found_by limit roots t)) so_far.0 in
      let below : k < length ys = omega (arith, hx.reached k lt, few, longer ys k hy) in
      let one : suc k ≡ k + 1 = omega arith in
      let here : get_or xs k nobody ≡ get_or ys k nobody
      = object xs k hx lt ∙ ap (met_at what) (kth xs k hx lt
      ∙ ap (λ t. get_or (found_by limit roots t) k 0) so_far.0 ∙ sym (kth ys k hy below))
      ∙ sym (object ys k hy below) in (
        ap (λ n. take n xs) one ∙ (take_at_read xs k nobody lt).1 ∙ ap (λ t. t ++ get_or xs k nobody ∷ []) so_far.0
            ∙ ap (λ x. take k ys ++ x ∷ []) here ∙ sym (take_at_read ys k nobody below).1 ∙ ap (λ n. take n ys) (sym one),
        omega (arith, below),
      )

  pub met_unique : (xs ys : List Met) → AreMet what limit roots xs → AreMet what limit roots ys → xs ≡ ys
  met_unique xs ys hx hy =
      let there = same xs ys hx hy (length xs) (omega arith) in
      let back = same ys xs hy hx (length ys) (omega arith) in
      sym (take_all (length xs) xs (omega arith)) ∙ there.0 ∙ take_all (length xs) ys back.1

  -- what was found is what there is
  pub only_met : (r : Result (Vec read.Met Global) ExceptionsError)
      → IfOk r (λ all. AreMet what limit roots (map (λ x. met_of x) all.items)) → (other : List Met)
      → AreMet what limit roots other → IfOk r (λ all. map (λ x. met_of x) all.items ≡ other)
  only_met (Ok all) h other is = met_unique (map (λ x. met_of x) all.items) other h is
  only_met (Err e) h other is = tt
