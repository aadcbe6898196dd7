-- Addresses that come in, and a list of those that are too many.
use Rattle.std.proofs.Common.{ℕ, List, [], ◌∷◌, ◌++◌, ◌≢◌, ◌≡◌, ◌≤◌, ◌<◌, ◌+◌, ◌^◌, ◌⊎◌, ◌↔◌, inl, inr, refl, sym}
use Rattle.std.proofs.Common.{subst, false, arith, nat_eq, length, length-append, rules, take, drop, get_or}
use Rattle.std.specs.List.{Contains, IsDistinct}
use Rattle.std.specs.List.Sorted.{IsStrictlySortedBy}
use Rattle.std.specs.Ordering.{nat_cmp}
use Rattle.std.proofs.lemmas.Bool.Decides.{nat_tests, Decides-eqb}
use Rattle.std.proofs.lemmas.List.Elements.{All-append, All-cons, All-from_recursion, recursion_from_All, All-weaker}
use Rattle.std.proofs.lemmas.List.Elements.{Contains-get_or, Contains-append_right, Contains-append_left, Contains-push}
use Rattle.std.proofs.lemmas.List.Elements.{Contains-push_cases}
use Rattle.std.proofs.lemmas.List.{take_more, take-append-drop}
use Rattle.std.proofs.lemmas.List.Kept.{AllPairs-from_increasing}
use Rattle.std.proofs.lemmas.Map.Keys.{IsDistinct-head, IsDistinct-tail, IsDistinct-cons}
use Rattle.std.proofs.lemmas.Map.Keys.{IsStrictlyIncreasing-from_sorted}
use Rattle.std.proofs.lemmas.Map.Made.{AllPairs-from_IsDistinct, IsDistinct-from_AllPairs}
use Rattle.object_reach.specs.Objects.{IsNamed}
use Rattle.object_reach.specs.Front.{IsSeen, IsApart, AddsToFront, Overfills}

pub adds_known : (done pending : List ℕ) (a : ℕ) → IsSeen done pending a → IsApart done pending → length done + length pending ≤ 2 ^ 20 → AddsToFront done pending (λ q. q ≡ a) pending
adds_known done pending a known apart fits =
    record {
      seen = λ q. (λ h. inl h, λ h. elim h [ inl e ↦ e | inr e ↦ subst (IsSeen done pending) (sym e) known ]);
      apart = apart;
      fits = fits;
    }

pub adds_new : (done pending after : List ℕ) (a : ℕ) → (Contains done a → ⊥) → IsApart done pending → ((q : ℕ) → Contains after q ↔ (Contains pending q ⊎ (q ≡ a))) → length done + length after ≤ 2 ^ 20 → AddsToFront done pending (λ q. q ≡ a) after
adds_new done pending after a new apart members fits =
    record {
      seen = λ q. (
        λ h. elim h [ inl e ↦ inl (inl e) | inr e ↦ elim ((members q).0 e) [ inl k ↦ inl (inr k) | inr k ↦ inr k ] ],
        λ h. elim h [ inl e ↦ elim e [ inl k ↦ inl k | inr k ↦ inr ((members q).1 (inl k)) ] | inr e ↦ inr ((members q).1 (inr e)) ],
      );
      apart = λ q d p. elim ((members q).0 p) [ inl k ↦ apart q d k | inr k ↦ new (subst (Contains done) k d) ];
      fits = fits;
    }

pub distinct_sorted : (xs : List ℕ) → IsStrictlySortedBy nat_cmp xs → IsDistinct nat_eq xs
distinct_sorted xs h = IsDistinct-from_AllPairs Decides-eqb xs (λ i j d l m. let below = AllPairs-from_increasing xs (IsStrictlyIncreasing-from_sorted xs h) i j d l m in omega (arith, below))

pub apart_false : (x y : ℕ) → (x ≡ y → ⊥) → nat_eq x y ≡ false
apart_false x y h = grind (arith, nat_tests)

pub distinct_append : (xs ys : List ℕ) → IsDistinct nat_eq xs → IsDistinct nat_eq ys → IsApart xs ys → IsDistinct nat_eq (xs ++ ys)
distinct_append [] ys d e apart = e
distinct_append (x ∷ xs) ys d e apart =
    IsDistinct-cons nat_eq x (xs ++ ys)
    (recursion_from_All (λ y. nat_eq x y ≡ false) (xs ++ ys)
    (All-append (λ y. nat_eq x y ≡ false) xs ys (All-from_recursion _ xs (IsDistinct-head nat_eq x xs d))
    (λ k z l. apart_false x _ (λ same. apart x (0, search rules, refl) (subst (Contains ys) (sym same) (Contains-get_or ys k z l))))))
    (distinct_append xs ys (IsDistinct-tail nat_eq x xs d) e (λ q k. apart q (Contains-append_right (x ∷ []) xs q k)))

-- ---- one that is new where no more fit
pub overfills_new : (done pending : List ℕ) (a : ℕ) → IsStrictlySortedBy nat_cmp done → IsStrictlySortedBy nat_cmp pending → IsApart done pending → (IsSeen done pending a → ⊥) → 2 ^ 20 ≤ length done + length pending → Overfills done pending (λ q. q ≡ a)
overfills_new done pending a d p apart new full =
    let Is : ℕ → Type 0 = λ q. IsSeen done pending q ⊎ (q ≡ a) in
    let all = done ++ pending in
    record {
      list = a ∷ all;
      distinct = AllPairs-from_IsDistinct Decides-eqb (a ∷ all)
          (IsDistinct-cons nat_eq a all
          (recursion_from_All (λ y. nat_eq a y ≡ false) all
          (All-append (λ y. nat_eq a y ≡ false) done pending
          (λ k z l. apart_false a _ (λ same. new (subst (IsSeen done pending) (sym same) (inl (Contains-get_or done k z l)))))
          (λ k z l. apart_false a _ (λ same. new (subst (IsSeen done pending) (sym same) (inr (Contains-get_or pending k z l)))))))
          (distinct_append done pending (distinct_sorted done d) (distinct_sorted pending p) apart));
      known = All-cons Is a all (inr refl) (All-append Is done pending (λ k z l. inl (inl (Contains-get_or done k z l))) (λ k z l. inl (inr (Contains-get_or pending k z l))));
      passes = omega (arith, length-append done pending);
    }

-- ---- one word more
pub named_more : (ws : List ℕ) (i : ℕ) → i < length ws → (q : ℕ) → IsNamed (take (i + 1) ws) q → IsNamed (take i ws) q ⊎ ((q ≡ get_or ws i 0) × (q ≢ 0))
named_more ws i l q h =
    elim (Contains-push_cases (take i ws) (get_or ws i 0) q (subst (λ xs. Contains xs q) (take_more ws i 0 l) h.0)) [
      | inl e ↦ inl (e, h.1)
      | inr e ↦ inr (sym e, h.1)
    ]

pub named_kept : (ws : List ℕ) (i : ℕ) → i < length ws → (q : ℕ) → IsNamed (take i ws) q → IsNamed (take (i + 1) ws) q
named_kept ws i l q h = (subst (λ xs. Contains xs q) (sym (take_more ws i 0 l)) (Contains-append_left (take i ws) (get_or ws i 0 ∷ []) q h.0), h.1)

pub named_now : (ws : List ℕ) (i : ℕ) → i < length ws → (q : ℕ) → q ≡ get_or ws i 0 → q ≢ 0 → IsNamed (take (i + 1) ws) q
named_now ws i l q e k =
    (subst (λ xs. Contains xs q) (sym (take_more ws i 0 l)) (subst (Contains (take i ws ++ get_or ws i 0 ∷ [])) (sym e) (Contains-push (take i ws) (get_or ws i 0))), k)

Contains-from_take : (ws : List ℕ) (i : ℕ) (q : ℕ) → Contains (take i ws) q → Contains ws q
Contains-from_take ws i q h = subst (λ xs. Contains xs q) (take-append-drop i ws) (Contains-append_left (take i ws) (drop i ws) q h)

pub named_whole : (ws : List ℕ) (i : ℕ) (q : ℕ) → IsNamed (take i ws) q → IsNamed ws q
named_whole ws i q h = (Contains-from_take ws i q h.0, h.1)

pub adds_like : (done pending after : List ℕ) (Is Now : ℕ → Type 0) → ((q : ℕ) → Is q → Now q) → ((q : ℕ) → Now q → Is q) → AddsToFront done pending Is after → AddsToFront done pending Now after
adds_like done pending after Is Now to from h =
    record {
      seen = λ q. (
        λ k. elim ((h.seen q).0 k) [ inl e ↦ inl e | inr e ↦ inr (to q e) ],
        λ k. elim k [ inl e ↦ (h.seen q).1 (inl e) | inr e ↦ (h.seen q).1 (inr (from q e)) ],
      );
      apart = h.apart;
      fits = h.fits;
    }

pub adds_more : (done pending now after : List ℕ) (Is : ℕ → Type 0) (a : ℕ) → AddsToFront done pending Is now → AddsToFront done now (λ q. q ≡ a) after → AddsToFront done pending (λ q. Is q ⊎ (q ≡ a)) after
adds_more done pending now after Is a h k =
    record {
      seen = λ q. (
        λ s. elim ((k.seen q).0 s) [
          | inl e ↦ elim ((h.seen q).0 e) [ inl o ↦ inl o | inr o ↦ inr (inl o) ]
          | inr e ↦ inr (inr e)
        ],
        λ s. elim s [
          | inl e ↦ (k.seen q).1 (inl ((h.seen q).1 (inl e)))
          | inr e ↦ elim e [ inl o ↦ (k.seen q).1 (inl ((h.seen q).1 (inr o))) | inr o ↦ (k.seen q).1 (inr o) ]
        ],
      );
      apart = k.apart;
      fits = k.fits;
    }

pub overfills_more : (done pending now : List ℕ) (Is Now : ℕ → Type 0) (a : ℕ) → AddsToFront done pending Is now → ((q : ℕ) → Is q → Now q) → Now a → Overfills done now (λ q. q ≡ a) → Overfills done pending Now
overfills_more done pending now Is Now a h to this k =
    record {
      list = k.list;
      distinct = k.distinct;
      passes = k.passes;
      known = All-weaker (λ q. IsSeen done now q ⊎ (q ≡ a)) (λ q. IsSeen done pending q ⊎ Now q)
          (λ q s. elim s [
            | inl e ↦ elim ((h.seen q).0 e) [ inl o ↦ inl o | inr o ↦ inr (to q o) ]
            | inr e ↦ inr (subst Now (sym e) this)
          ]) k.list k.known;
    }
