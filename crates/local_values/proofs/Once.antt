-- Numbers that are kept once each, and keys of maps that are numbers.
use Rattle.std.proofs.Common.{◌≡◌, ℕ, ◌+◌, ◌<◌, Bool, true, false, cond, ◌||◌, nat_eq, if◌then◌else◌, List, [], ◌∷◌, ◌++◌}
use Rattle.std.proofs.Common.{get_or, take, length, ap, sym, ◌∙◌, refl, arith, eqb-true}
use Rattle.std.specs.Prelude.{not}
use Rattle.std.specs.BTreeMap.{is_at}
use Rattle.std.specs.List.{list_any}
use Rattle.std.specs.Ordering.{nat_cmp}
use Rattle.std.proofs.lemmas.Bool.Decides.{nat_tests}
use Rattle.std.proofs.lemmas.List.Folds.{list_any-append}
use Rattle.std.proofs.lemmas.List.Sums.{fold_more}
use Rattle.local_values.specs.Addresses.{each_once, with_new}

-- a number is at a key where it is the same
pub same_key : (k q : ℕ) → is_at (nat_cmp k) q ≡ nat_eq q k
same_key k q = grind (arith, nat_tests)

-- what is among some numbers, behind one more
pub among_more : (xs : List ℕ) (x q : ℕ) → list_any (nat_eq q) (xs ++ x ∷ []) ≡ (list_any (nat_eq q) xs || nat_eq q x)
among_more xs x q = list_any-append (nat_eq q) xs (x ∷ []) ∙ ap (λ b. list_any (nat_eq q) xs || b) (or_false (nat_eq q x))
  where
    or_false : (b : Bool) → (b || false) ≡ b
    or_false true = refl
    or_false false = refl

-- the numbers that were met so far, each once, and a set of them
pub record Met (all : List ℕ) (i : ℕ) (has : ℕ → Bool) (once : List ℕ) : Type 0 where
  pub are : once ≡ each_once (take i all)
  pub met : (q : ℕ) → has q ≡ list_any (nat_eq q) once

module _ {all : List ℕ} {i : ℕ} {had : ℕ → Bool} {once : List ℕ} where
  once_more : (x : ℕ) (new : List ℕ) → Met all i had once → i < length all → x ≡ get_or all i 0 → new ≡ with_new once x
      → new ≡ each_once (take (i + 1) all)
  once_more x new t less at is =
      is ∙ ap (λ xs. with_new xs x) t.are ∙ ap (λ y. with_new (each_once (take i all)) y) at
      ∙ sym (fold_more with_new [] all i 0 less)

  -- a number that was not met before
  pub met_new : {has : ℕ → Bool} (x : ℕ) {new : List ℕ} → Met all i had once → i < length all → x ≡ get_or all i 0
      → true ≡ not (had x) → ((q : ℕ) → has q ≡ cond (is_at (nat_cmp x) q) true (had q)) → new ≡ once ++ x ∷ []
      → Met all (i + 1) has new
  met_new {has = has} x {new = new} t less at added updates is = record {
    are = once_more x new t less at (is ∙ sym (ap (λ b. if b then once else once ++ x ∷ []) unmet));
    met = λ q. updates q ∙ ap (λ b. cond b true (had q)) (same_key x q) ∙ turned (nat_eq q x) (had q)
        ∙ ap (λ b. b || nat_eq q x) (t.met q) ∙ sym (among_more once x q) ∙ ap (λ xs. list_any (nat_eq q) xs) (sym is);
  }
    where
      no : (b : Bool) → true ≡ not b → b ≡ false
      no true e = cc
      no false e = refl

      unmet : list_any (nat_eq x) once ≡ false
      unmet = sym (t.met x) ∙ no (had x) added

      turned : (b c : Bool) → cond b true c ≡ (c || b)
      turned true true = refl
      turned true false = refl
      turned false true = refl
      turned false false = refl

  -- one that was
  pub met_again : {has : ℕ → Bool} (x : ℕ) {new : List ℕ} → Met all i had once → i < length all → x ≡ get_or all i 0
      → false ≡ not (had x) → ((q : ℕ) → has q ≡ cond (is_at (nat_cmp x) q) true (had q)) → new ≡ once
      → Met all (i + 1) has new
  met_again {has = has} x {new = new} t less at added updates is = record {
    are = once_more x new t less at (is ∙ sym (ap (λ b. if b then once else once ++ x ∷ []) known));
    met = λ q. updates q ∙ ap (λ b. cond b true (had q)) (same_key x q) ∙ stays q (nat_eq q x) refl
        ∙ t.met q ∙ ap (λ xs. list_any (nat_eq q) xs) (sym is);
  }
    where
      yes : (b : Bool) → false ≡ not b → b ≡ true
      yes true e = refl
      yes false e = cc

      known : list_any (nat_eq x) once ≡ true
      known = sym (t.met x) ∙ yes (had x) added

      stays : (q : ℕ) (b : Bool) → nat_eq q x ≡ b → cond b true (had q) ≡ had q
      stays q true e = sym (ap had (eqb-true q x e) ∙ yes (had x) added)
      stays q false e = refl
