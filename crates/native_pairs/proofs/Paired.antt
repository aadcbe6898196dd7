-- Which native frames have a run.
use Rattle.std.proofs.Common.{◌≡◌, ℕ, zero, suc, ◌+◌, ◌<◌, ◌≤◌, Bool, true, false, cond, List, [], ◌∷◌, ◌++◌, length}
use Rattle.std.proofs.Common.{get_or, take, refl, sym, ◌∙◌, ap, subst, arith, ⊎_elim, length-append, add-one, Some}
use Rattle.std.proofs.Common.{None, Option}
use Rattle.std.specs.Prelude.{slice_get}
use Rattle.std.proofs.Math.ListN.{get_or-append}
use Rattle.std.proofs.Math.Seq.{get_or-append_seam, take-append_seam, take-suc}
use Rattle.std.proofs.lemmas.Bool.{cases_order}
use Rattle.std.proofs.lemmas.List.{take-append-le, take_all}
use Rattle.std.proofs.lemmas.List.Sums.{count_by_more_no, count_by_more_yes, sum_by-append}
use Rattle.std.proofs.lemmas.Option.{slice_get-get_or, slice_get_past}
use Rattle.native_pairs.specs.declared.part.Part.{Part}
use Rattle.native_pairs.specs.Pairs.{IsPaired, IsPairedByAddress, lies_by, lies_in, runs_all, runs_before}

-- one more
pub runs_more : (takes more : List Bool) (has : Bool) → more ≡ takes ++ has ∷ []
    → runs_all more ≡ runs_all takes + runs_all (has ∷ [])
runs_more takes more has e = rw e (sum_by-append (λ t. cond t 1 0) takes (has ∷ []))

pub runs_yes : (takes more : List Bool) (has : Bool) → more ≡ takes ++ has ∷ [] → has ≡ true
    → runs_all more ≡ runs_all takes + 1
runs_yes takes more has e is = runs_more takes more has e ∙ rw is refl

pub runs_no : (takes more : List Bool) (has : Bool) → more ≡ takes ++ has ∷ [] → has ≡ false
    → runs_all more ≡ runs_all takes
runs_no takes more has e is =
    let same : runs_all takes + 0 ≡ runs_all takes = omega arith in
    runs_more takes more has e ∙ rw is same

module _ (lies : ℕ → ℕ → Bool) where
  pub paired_none : IsPaired lies 0 []
  paired_none = record { each = refl; next = λ k h. absurd (omega (arith, h)) }

  at_seam : (takes : List Bool) (has : Bool) → has ≡ lies (length takes) (runs_all takes)
      → get_or (takes ++ has ∷ []) (length takes) false
      ≡ lies (length takes) (runs_before (takes ++ has ∷ []) (length takes))
  at_seam takes has e = get_or-append_seam takes has [] false ∙ e
      ∙ ap (λ ts. lies (length takes) (runs_all ts)) (sym (take-append_seam takes (has ∷ [])))

  before_seam : (takes : List Bool) (has : Bool) (k : ℕ) → k < length takes
      → get_or takes k false ≡ lies k (runs_before takes k)
      → get_or (takes ++ has ∷ []) k false ≡ lies k (runs_before (takes ++ has ∷ []) k)
  before_seam takes has k below e = get_or-append takes (has ∷ []) false k below ∙ e
      ∙ ap (λ ts. lies k (runs_all ts)) (sym (take-append-le k takes (has ∷ []) (omega (arith, below))))

  longer : (takes : List Bool) (has : Bool) → IsPaired lies (length takes) takes
      → has ≡ lies (length takes) (runs_all takes)
      → IsPaired lies (length takes + 1) (takes ++ has ∷ [])
  longer takes has p e = record {
    each = length-append takes (has ∷ []);
    next = λ k h. ⊎_elim (λ same. rw same (at_seam takes has e))
        (λ other. ⊎_elim (λ below. before_seam takes has k below (p.next k below))
        (λ above. absurd (omega (arith, above, h))) other) (cases_order k (length takes));
  }

  pub paired_more : (n : ℕ) (takes more : List Bool) (has : Bool) → IsPaired lies n takes
      → has ≡ lies n (runs_all takes)
      → more ≡ takes ++ has ∷ [] → IsPaired lies (n + 1) more
  paired_more n takes more has p e adds =
      let here : IsPaired lies (length takes) takes = subst (λ j. IsPaired lies j takes) (sym p.each) p in
      let said : has ≡ lies (length takes) (runs_all takes) =
      subst (λ j. has ≡ lies j (runs_all takes)) (sym p.each) e in
      let all : IsPaired lies (length takes + 1) (takes ++ has ∷ []) = longer takes has here said in
      rw adds (subst (λ j. IsPaired lies (j + 1) (takes ++ has ∷ [])) p.each all)

  same_front : (n : ℕ) (xs ys : List Bool) → IsPaired lies n xs → IsPaired lies n ys → (k : ℕ) → k ≤ n
      → take k xs ≡ take k ys
  same_front n xs ys p q zero h = refl
  same_front n xs ys p q (suc k) h =
      let front : take k xs ≡ take k ys = same_front n xs ys p q k (omega (arith, h)) in
      let here : get_or xs k false ≡ get_or ys k false = p.next k (omega (arith, h))
      ∙ ap (λ ts. lies k (runs_all ts)) front ∙ sym (q.next k (omega (arith, h))) in
      take-suc xs k false (omega (arith, h, p.each)) ∙ ap (λ ts. ts ++ get_or xs k false ∷ []) front
      ∙ ap (λ t. take k ys ++ t ∷ []) here ∙ sym (take-suc ys k false (omega (arith, h, q.each)))

  -- what is so is so in one way alone
  pub paired_only : (n : ℕ) (xs ys : List Bool) → IsPaired lies n xs → IsPaired lies n ys → xs ≡ ys
  paired_only n xs ys p q = sym (take_all n xs (omega (arith, p.each))) ∙ same_front n xs ys p q n (omega arith)
      ∙ take_all n ys (omega (arith, q.each))

-- ---- by addresses

-- where a part is the one at an index, and a border
pub lies_here : (parts : List Part) (borders : List (Option ℕ)) (i j : ℕ) (d : Part) (has : Bool)
    (border : Option (Option ℕ))
    → i < length parts → has ≡ lies_in (Some (get_or parts i d)) border → border ≡ slice_get borders j
    → has ≡ lies_by parts borders i j
lies_here parts borders i j d has border within is same =
    is ∙ ap (λ b. lies_in (Some (get_or parts i d)) b) same
    ∙ ap (λ p. lies_in p (slice_get borders j)) (sym (slice_get-get_or parts i d within))

no_run : (p : Option Part) → lies_in p None ≡ false
no_run None = refl
no_run (Some part) = refl

elsewhere : (parts : List Part) (borders : List (Option ℕ)) (i j : ℕ) → lies_by parts borders i j ≡ true
    → length borders ≤ j → ⊥
elsewhere parts borders i j is past =
    let none : lies_by parts borders i j ≡ false = rw (slice_get_past borders j past) (no_run (slice_get parts i)) in
    let clash : false ≡ true = sym none ∙ is in
    cc

there : (parts : List Part) (borders : List (Option ℕ)) (i j : ℕ) → lies_by parts borders i j ≡ true
    → j < length borders
there parts borders i j is = ⊎_elim
    (λ same. absurd (elsewhere parts borders i j is (omega (arith, same))))
    (λ other. ⊎_elim (λ below. below) (λ above. absurd (elsewhere parts borders i j is (omega (arith, above)))) other)
    (cases_order j (length borders))

few_before : (parts : List Part) (borders : List (Option ℕ)) (takes : List Bool) → IsPairedByAddress parts borders takes
    → (k : ℕ) → k ≤ length takes → runs_before takes k ≤ length borders
few_before parts borders takes p zero h = omega arith
few_before parts borders takes p (suc k) h =
    let within : k < length takes = omega (arith, h) in
    let less : runs_before takes k ≤ length borders = few_before parts borders takes p k (omega (arith, h)) in
    let next : get_or takes k false ≡ lies_by parts borders k (runs_before takes k) =
    p.next k (omega (arith, within, p.each)) in
    rw (← add-one k) ((elim (get_or takes k false) as (λ b. get_or takes k false ≡ b
    → runs_before takes (k + 1) ≤ length borders) [
      | true ↦ λ yes. omega (
        arith,
        count_by_more_yes (λ t. t) takes k false within yes,
        there parts borders k (runs_before takes k) (sym next ∙ yes),
      )
      | false ↦ λ none. omega (arith, count_by_more_no (λ t. t) takes k false within none, less)
    ]) refl)

-- each run is had once at most
pub runs_few : (parts : List Part) (borders : List (Option ℕ)) (takes : List Bool)
    → IsPairedByAddress parts borders takes
    → runs_all takes ≤ length borders
runs_few parts borders takes p =
    let all : take (length takes) takes ≡ takes = take_all (length takes) takes (omega arith) in
    rw all at (few_before parts borders takes p (length takes) (omega arith))
