-- Each Python frame stands among the merged ones once and in order, and each native one.
use Rattle.std.proofs.Common.{◌≡◌, ℕ, suc, ◌+◌, ◌≤◌, Bool, true, false, nat_eq, List, [], ◌∷◌, ◌++◌, length, map, take}
use Rattle.std.proofs.Common.{Ok, Err, IfOk, refl, sym, ◌∙◌, ap, arith, append_assoc, append-nil, take_all}
use Rattle.std.proofs.Common.{if◌then◌else◌}
use Rattle.std.proofs.lemmas.Bool.Decides.{nat_tests}
use Rattle.native_merge.specs.StackParts.{part, cursor}
use Rattle.native_merge.specs.MergedStacks.{StackItem, MergedFrame, misfit, pythons, natives, step_count, natives_in}
use Rattle.native_merge.specs.MergedStacks.{interleaved, at_end, merged_at, merged}
use Rattle.native_merge.specs.MergedStacks.StackItem.{Step, Shown}
use Rattle.native_merge.specs.MergedStacks.MergedFrame.{Python, Native}
use Rattle.native_merge.proofs.StackCuts.{cursor-zero, take-cursor-suc}

module _ {C N : Type 0} where
  pub pythons-append : (xs ys : List (MergedFrame C N)) → pythons (xs ++ ys) ≡ pythons xs ++ pythons ys
  unfolding pythons
  pythons-append [] ys = refl
  pythons-append (Python c ∷ xs) ys = ap (λ l. c ∷ l) (pythons-append xs ys)
  pythons-append (Native c ∷ xs) ys = pythons-append xs ys

  pub natives-append : (xs ys : List (MergedFrame C N)) → natives (xs ++ ys) ≡ natives xs ++ natives ys
  unfolding natives
  natives-append [] ys = refl
  natives-append (Python c ∷ xs) ys = natives-append xs ys
  natives-append (Native c ∷ xs) ys = ap (λ l. c ∷ l) (natives-append xs ys)

pub pythons-map : {C : Type 0} (N : Type 0) (cs : List C) → pythons {C = C} {N = N} (map Python cs) ≡ cs
unfolding pythons
pythons-map N [] = refl
pythons-map N (c ∷ cs) = ap (λ l. c ∷ l) (pythons-map N cs)

pub natives-map : {C : Type 0} (N : Type 0) (cs : List C) → natives {C = C} {N = N} (map Python cs) ≡ []
unfolding natives
natives-map N [] = refl
natives-map N (c ∷ cs) = natives-map N cs

pub step_count-append : {N : Type 0} (is js : List (StackItem N)) → step_count (is ++ js) ≡ step_count is + step_count js
unfolding step_count
step_count-append [] js = omega arith
step_count-append (Step ∷ is) js = let e = step_count-append is js in omega arith
step_count-append (Shown c ∷ is) js = step_count-append is js

-- one that has come to the end or past it stands behind all frames
past : {C : Type 0} (fs : List C) (c : ℕ) → at_end fs c ≡ true → length fs ≤ c
past fs c h = grind (arith, nat_tests)

is_zero : (c : ℕ) → nat_eq c 0 ≡ true → c ≡ 0
is_zero c h = grind (arith, nat_tests)

module _ {C N : Type 0} (m : C → Bool) (fs : List C) where
  pub interleaved-append : (k : ℕ) (is js : List (StackItem N)) → interleaved m fs k (is ++ js) ≡ interleaved m fs k is ++ interleaved m fs (k + step_count is) js
  unfolding interleaved step_count
  interleaved-append k [] js = let e : k + 0 ≡ k = omega arith in rw e refl
  interleaved-append k (Step ∷ is) js = let e : k + suc (step_count is) ≡ suc k + step_count is = omega arith in
      rw e (ap (λ l. map Python (part m k fs) ++ l) (interleaved-append (suc k) is js)
      ∙ sym (append_assoc (map Python (part m k fs)) (interleaved m fs (suc k) is) (interleaved m fs (suc k + step_count is) js)))
  interleaved-append k (Shown c ∷ is) js = ap (λ l. Native c ∷ l) (interleaved-append k is js)

  -- the Python frames that steps take follow those before the cursor
  pub pythons-interleaved_from : (k : ℕ) (is : List (StackItem N)) → take (cursor m k fs) fs ++ pythons (interleaved m fs k is) ≡ take (cursor m (k + step_count is) fs) fs
  unfolding interleaved step_count pythons
  pythons-interleaved_from k [] = let e : k + 0 ≡ k = omega arith in rw e (append-nil (take (cursor m k fs) fs))
  pythons-interleaved_from k (Step ∷ is) = let e : k + suc (step_count is) ≡ suc k + step_count is = omega arith in
      let p : pythons (map Python (part m k fs) ++ interleaved m fs (suc k) is) ≡ part m k fs ++ pythons (interleaved m fs (suc k) is)
      = pythons-append (map Python (part m k fs)) (interleaved m fs (suc k) is) ∙ ap (λ l. l ++ pythons (interleaved m fs (suc k) is)) (pythons-map N (part m k fs)) in
      rw e (ap (λ l. take (cursor m k fs) fs ++ l) p
      ∙ sym (append_assoc (take (cursor m k fs) fs) (part m k fs) (pythons (interleaved m fs (suc k) is)))
      ∙ ap (λ l. l ++ pythons (interleaved m fs (suc k) is)) (take-cursor-suc m k fs)
      ∙ pythons-interleaved_from (suc k) is)
  pythons-interleaved_from k (Shown c ∷ is) = pythons-interleaved_from k is

  pub pythons-interleaved : (is : List (StackItem N)) → pythons (interleaved m fs 0 is) ≡ take (cursor m (step_count is) fs) fs
  pythons-interleaved is = let e : 0 + step_count is ≡ step_count is = omega arith in
      sym (ap (λ c. take c fs ++ pythons (interleaved m fs 0 is)) (cursor-zero m fs)) ∙ pythons-interleaved_from 0 is ∙ ap (λ k. take (cursor m k fs) fs) e

  pub natives-interleaved : (k : ℕ) (is : List (StackItem N)) → natives (interleaved m fs k is) ≡ natives_in is
  unfolding interleaved natives_in natives
  natives-interleaved k [] = refl
  natives-interleaved k (Step ∷ is) = natives-append (map Python (part m k fs)) (interleaved m fs (suc k) is)
      ∙ ap (λ l. l ++ natives (interleaved m fs (suc k) is)) (natives-map N (part m k fs)) ∙ natives-interleaved (suc k) is
  natives-interleaved k (Shown c ∷ is) = ap (λ l. c ∷ l) (natives-interleaved k is)

  merged_at_once : (c : ℕ) (is : List (StackItem N)) → c ≡ cursor m (step_count is) fs → IfOk (merged_at m fs c is) (λ ms. (pythons ms ≡ fs) × (natives ms ≡ natives_in is))
  merged_at_once c is e = (elim (nat_eq c 0) as (λ b. nat_eq c 0 ≡ b → IfOk (if b then Ok (interleaved m fs 0 is ++ map Python fs) else (if at_end fs c then Ok (interleaved m fs 0 is) else Err (misfit c (length fs)))) (λ ms. (pythons ms ≡ fs) × (natives ms ≡ natives_in is))) [
    | true ↦ λ z.
        let none : pythons (interleaved m fs 0 is) ≡ [] = pythons-interleaved is ∙ ap (λ n. take n fs) (sym e ∙ is_zero c z) in (
          pythons-append (interleaved m fs 0 is) (map Python fs) ∙ ap (λ l. l ++ pythons {N = N} (map Python fs)) none ∙ pythons-map N fs,
          natives-append (interleaved m fs 0 is) (map Python fs) ∙ ap (λ l. natives (interleaved m fs 0 is) ++ l) (natives-map N fs) ∙ append-nil (natives (interleaved m fs 0 is)) ∙ natives-interleaved 0 is,
        )
    | false ↦ λ _. (elim (at_end fs c) as (λ b. at_end fs c ≡ b → IfOk (if b then Ok (interleaved m fs 0 is) else Err (misfit c (length fs))) (λ ms. (pythons ms ≡ fs) × (natives ms ≡ natives_in is))) [
      | true ↦ λ h. (pythons-interleaved is ∙ ap (λ n. take n fs) (sym e) ∙ take_all c fs (past fs c h), natives-interleaved 0 is)
      | false ↦ λ _. tt
    ]) refl
  ]) refl

  pub each_once : (is : List (StackItem N)) → IfOk (merged m fs is) (λ ms. (pythons ms ≡ fs) × (natives ms ≡ natives_in is))
  unfolding merged
  each_once is = merged_at_once (cursor m (step_count is) fs) is refl
