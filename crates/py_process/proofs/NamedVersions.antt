-- The numbers that the names of mapped files tell, one map after another.
use Rattle.std.proofs.Common.{◌≡◌, ℕ, Bool, true, false, not, ◌&&◌, List, [], ◌∷◌, ◌++◌, refl, sym, ◌∙◌, ap, arith}
use Rattle.std.proofs.Common.{append-nil, append_assoc, subst}
use Rattle.std.specs.Prelude.{nat_eq, if◌then◌else◌, Option, Some, None}
use Rattle.std.specs.List.{list_all}
use Rattle.std.proofs.lemmas.Bool.Decides.{nat_tests}
use Rattle.image_memory.specs.declared.maps.CoreMapRange.{CoreMapRange}
use Rattle.py_process.specs.NamedVersions.{differs, map_numbers, numbers_told, same_numbers, the_only, with_numbers}

with_more : (o : Option (ℕ × ℕ)) (xs ys : List (ℕ × ℕ)) → with_numbers o (xs ++ ys) ≡ with_numbers o xs ++ ys
with_more None xs ys = refl
with_more (Some n) xs ys = refl

told_append : (xs ys : List CoreMapRange) → numbers_told (xs ++ ys) ≡ numbers_told xs ++ numbers_told ys
unfolding numbers_told
told_append [] ys = refl
told_append (x ∷ xs) ys = ap (with_numbers (map_numbers x)) (told_append xs ys)
    ∙ with_more (map_numbers x) (numbers_told xs) (numbers_told ys)

told_one : (x : CoreMapRange) (o : Option (ℕ × ℕ)) → map_numbers x ≡ o → numbers_told (x ∷ []) ≡ with_numbers o []
unfolding numbers_told
told_one x o e = ap (λ o. with_numbers o []) e

and_more : (a b : Bool) → a ≡ true → b ≡ true → (a && b) ≡ true
and_more a b p q = rw (p, q) refl

both_true : (a b : Bool) → (a && b) ≡ true → (a ≡ true) × (b ≡ true)
both_true true b e = (refl, e)
both_true false b e = absurd (cc)

all_more : (p : ℕ × ℕ → Bool) (xs : List (ℕ × ℕ)) (y : ℕ × ℕ) → list_all p xs ≡ true → p y ≡ true
    → list_all p (xs ++ y ∷ []) ≡ true
all_more p [] y e h = and_more (p y) true h refl
all_more p (x ∷ xs) y e h =
    let both = both_true (p x) (list_all p xs) e in
    and_more (p x) (list_all p (xs ++ y ∷ [])) both.0 (all_more p xs y both.1 h)

and_none : (a b : Bool) → b ≡ false → (a && b) ≡ false
and_none true b e = e
and_none false b e = refl

none_more : (p : ℕ × ℕ → Bool) (xs ys : List (ℕ × ℕ)) (y : ℕ × ℕ) → p y ≡ false
    → list_all p (xs ++ y ∷ ys) ≡ false
none_more p [] ys y h = rw h refl
none_more p (x ∷ xs) ys y h = and_none (p x) (list_all p (xs ++ y ∷ ys)) (none_more p xs ys y h)

-- what was told of some maps: nothing, or the same by each that tells
pub record ToldSoFar (maps : List CoreMapRange) (told : Option (ℕ × ℕ)) : Type 0 where
  pub nothing : told ≡ None → numbers_told maps ≡ []
  pub same : (one : ℕ × ℕ) → told ≡ Some one
      → (rest : List (ℕ × ℕ)) × (numbers_told maps ≡ one ∷ rest) × (list_all (same_numbers one) rest ≡ true)

pub told_init : ToldSoFar [] None
unfolding numbers_told
told_init = record { nothing = λ e. refl; same = λ one e. absurd (cc) }

pub told_is : (maps : List CoreMapRange) (told : Option (ℕ × ℕ)) → ToldSoFar maps told
    → told ≡ the_only (numbers_told maps)
told_is maps None t = let none = t.nothing refl in rw none refl
told_is maps (Some one) t =
    let s = t.same one refl in
    let same = s.2 in
    ap (λ b. if b then Some one else None) (sym same) ∙ ap the_only (sym s.1)

told_with : (maps : List CoreMapRange) (x : CoreMapRange) (o : Option (ℕ × ℕ)) → map_numbers x ≡ o
    → numbers_told (maps ++ x ∷ []) ≡ numbers_told maps ++ with_numbers o []
told_with maps x o e = told_append maps (x ∷ []) ∙ ap (λ ns. numbers_told maps ++ ns) (told_one x o e)

pub told_skip : (maps : List CoreMapRange) (x : CoreMapRange) (told : Option (ℕ × ℕ)) → map_numbers x ≡ None
    → ToldSoFar maps told → ToldSoFar (maps ++ x ∷ []) told
told_skip maps x told e t =
    let still = told_with maps x None e ∙ append-nil (numbers_told maps) in
    record {
      nothing = λ none. still ∙ t.nothing none;
      same = λ one is. let s = t.same one is in (s.0, still ∙ s.1, s.2);
    }

not_differs : (b : Bool) → not b ≡ false → b ≡ true
not_differs true e = refl
not_differs false e = absurd (cc)

is_differs : (b : Bool) → not b ≡ true → b ≡ false
is_differs true e = absurd (cc)
is_differs false e = refl

same_pair : (one other : ℕ × ℕ) → same_numbers one other ≡ true → one ≡ other
same_pair (a, b) (x, y) e =
    let p = both_true (nat_eq a x) (nat_eq b y) e in
    let one : a ≡ x = grind (arith, nat_tests, p.0) in
    let two : b ≡ y = grind (arith, nat_tests, p.1) in
    cc

pub told_more : (maps : List CoreMapRange) (x : CoreMapRange) (told : Option (ℕ × ℕ)) (n : ℕ × ℕ)
    → map_numbers x ≡ Some n → differs told n ≡ false → ToldSoFar maps told
    → ToldSoFar (maps ++ x ∷ []) (Some n)
told_more maps x None n e d t = record {
  nothing = λ none. absurd (cc);
  same = λ one is.
      let same : n ≡ one = cc in
      ([], told_with maps x (Some n) e ∙ ap (λ ns. ns ++ n ∷ []) (t.nothing refl) ∙ ap (λ y. y ∷ []) same, refl);
}
told_more maps x (Some first) n e d t =
    let equal = not_differs (same_numbers first n) d in
    let first_is = same_pair first n equal in
    let s = t.same first refl in
    record {
      nothing = λ none. absurd (cc);
      same = λ one is.
          let same : n ≡ one = cc in
          let head : first ≡ one = first_is ∙ same in (
            s.0 ++ n ∷ [],
            told_with maps x (Some n) e ∙ ap (λ ns. ns ++ n ∷ []) s.1 ∙ ap (λ y. y ∷ (s.0 ++ n ∷ [])) head,
            subst (λ y. list_all (same_numbers y) (s.0 ++ n ∷ []) ≡ true) head
                (all_more (same_numbers first) s.0 n s.2 equal),
          );
    }

pub told_differs : (maps more all : List CoreMapRange) (x : CoreMapRange) (told : Option (ℕ × ℕ)) (n : ℕ × ℕ)
    → map_numbers x ≡ Some n → differs told n ≡ true → ToldSoFar maps told → all ≡ (maps ++ x ∷ []) ++ more
    → None ≡ the_only (numbers_told all)
told_differs maps more all x None n e d t parts = absurd (cc)
told_differs maps more all x (Some first) n e d t parts =
    let other = is_differs (same_numbers first n) d in
    let s = t.same first refl in
    let is : numbers_told all ≡ first ∷ (s.0 ++ n ∷ numbers_told more) =
    ap numbers_told parts ∙ told_append (maps ++ x ∷ []) more
    ∙ ap (λ ns. ns ++ numbers_told more) (told_with maps x (Some n) e ∙ ap (λ ns. ns ++ n ∷ []) s.1)
    ∙ append_assoc (first ∷ s.0) (n ∷ []) (numbers_told more) in
    let no = none_more (same_numbers first) s.0 (numbers_told more) n other in
    ap (λ b. if b then Some first else None) (sym no) ∙ ap the_only (sym is)
