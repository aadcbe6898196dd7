-- What the search keeps from one object to the next, and what it has in the end.
use Rattle.std.proofs.Common.{ℕ, List, [], ◌∷◌, ◌≡◌, ◌≤◌, ◌<◌, ◌+◌, ◌-◌, ◌^◌, ◌⊎◌, ◌↔◌, inl, inr, refl, sym, subst, ap}
use Rattle.std.proofs.Common.{◌∙◌, Bool, true, false, arith, nat_eq, length, map, rules, Option}
use Rattle.std.specs.BTreeMap.{insert_entry}
use Rattle.std.specs.BTreeMap.Range.{IsLtBy}
use Rattle.std.specs.Cmp.{nat_eq_equiv}
use Rattle.std.specs.List.{Contains, IsDistinct, All, list_any}
use Rattle.std.specs.List.Sorted.{IsStrictlySortedBy, IsStrictlyIncreasing}
use Rattle.std.specs.Map.{keys_of}
use Rattle.std.specs.Ordering.{nat_cmp}
use Rattle.std.proofs.lemmas.Bool.Decides.{nat_tests, Decides-eqb}
use Rattle.std.proofs.lemmas.List.Elements.{All-cons, All-contains, All-weaker, All-nil, All-map, Contains-get_or}
use Rattle.std.proofs.lemmas.List.Elements.{Contains-append_right, Contains-append_cases, Contains-push_cases}
use Rattle.std.proofs.lemmas.List.Elements.{recursion_from_All}
use Rattle.std.proofs.lemmas.List.Sorted.{length_permutation}
use Rattle.std.proofs.lemmas.List.Sums.{sum_by-cons}
use Rattle.std.proofs.lemmas.Map.Keys.{IsDistinct-cons, IsStrictlyIncreasing-from_sorted}
use Rattle.std.proofs.lemmas.Map.Made.{AllPairs-from_IsDistinct, IsDistinct-from_AllPairs, length-le_from_is_member}
use Rattle.std.proofs.lemmas.Map.Views.{list_any-from_Contains, Contains-from_any, exact_unsigned_eq}
use Rattle.object_reach.specs.declared.objects.ObjectRead.{ObjectRead}
use Rattle.py_builtins.specs.declared.error.ObjectError.{ObjectError}
use Rattle.object_reach.specs.declared.reached.ReachObject.{ReachObject}
use Rattle.object_reach.specs.Objects.{IsChild, IsNamed, Object}
use Rattle.object_reach.specs.Reading.{ShowsObject, listed_as}
use Rattle.object_reach.specs.Front.{IsSeen, IsApart, AddsToFront, Overfills}
use Rattle.object_reach.specs.Reach.{IsReached, IsReach, IsBrokenBy, PassesLimit, addresses, slots_in_all}
use Rattle.object_reach.proofs.Paths.{reached_root, reached_child, reached_within}
use Rattle.object_reach.proofs.Sums.{sum_by-insert_entry, permutation-insert_entry, All-insert_entry}
use Rattle.object_reach.proofs.Sums.{sum_by-le_distinct}
use Rattle.object_reach.proofs.Fronts.{distinct_sorted, apart_false}

-- `done` has each object that was read, with its failure, `pending` the addresses that wait, and `room` the slots that are left
pub record IsFront (heap : ℕ → Object) (roots : List ℕ) (done : List (ℕ × Option ObjectError)) (pending : List ℕ) (room : ℕ) : Type 0 where
  pub reached : (q : ℕ) → IsSeen (keys_of done) pending q → IsReached heap roots q
  pub roots_in : (q : ℕ) → IsNamed roots q → IsSeen (keys_of done) pending q
  pub children_in : (a c : ℕ) → Contains (keys_of done) a → IsChild (heap a) c → IsSeen (keys_of done) pending c
  pub apart : IsApart (keys_of done) pending
  pub ordered : IsStrictlySortedBy nat_cmp (keys_of done)
  pub fits : length (keys_of done) + length pending ≤ 2 ^ 20
  pub slots : slots_in_all heap (keys_of done) + room ≡ 2 ^ 24
  pub failures : All (λ e. IsBrokenBy (heap e.0).failure e.1) done

pub none_in : (q : ℕ) → Contains {X = ℕ} [] q → ⊥
none_in q h = omega (arith, h.1)

sorted_none : IsStrictlySortedBy nat_cmp []
unfolding IsStrictlySortedBy
sorted_none = tt

pub shown_child : (object : Object) (room : ℕ) (found : ObjectRead) → ShowsObject object room found → (q : ℕ) → IsNamed found.words.items q → IsChild object q
shown_child object room found shows q n = subst (λ ws. IsNamed ws q) shows.words n

pub child_shown : (object : Object) (room : ℕ) (found : ObjectRead) → ShowsObject object room found → (q : ℕ) → IsChild object q → IsNamed found.words.items q
child_shown object room found shows q n = subst (λ ws. IsNamed ws q) (sym shows.words) n

pub front_start : (heap : ℕ → Object) (roots pending : List ℕ) → AddsToFront [] [] (IsNamed roots) pending → IsFront heap roots [] pending (2 ^ 24)
front_start heap roots pending h =
    record {
      reached = λ q s. elim ((h.seen q).0 s) [
        | inl e ↦ elim e [ inl o ↦ absurd (none_in q o) | inr o ↦ absurd (none_in q o) ]
        | inr e ↦ reached_root heap roots q e.0 e.1
      ];
      roots_in = λ q n. (h.seen q).1 (inr n);
      children_in = λ a c o _. absurd (none_in a o);
      apart = h.apart;
      ordered = sorted_none;
      fits = h.fits;
      slots = refl;
      failures = All-nil (λ e. IsBrokenBy (heap e.0).failure e.1);
    }

pub head_in : (a : ℕ) (xs : List ℕ) → Contains (a ∷ xs) a
head_in a xs = (0, search rules, refl)

pub tail_in : (a : ℕ) (xs : List ℕ) (q : ℕ) → Contains xs q → Contains (a ∷ xs) q
tail_in a xs q h = Contains-append_right (a ∷ []) xs q h

pub in_cons : (a : ℕ) (xs : List ℕ) (q : ℕ) → Contains (a ∷ xs) q → (q ≡ a) ⊎ Contains xs q
in_cons a xs q h =
    elim (Contains-append_cases (a ∷ []) xs q h) [
      | inl e ↦ elim (Contains-push_cases [] a q e) [ inl o ↦ absurd (none_in q o) | inr o ↦ inl (sym o) ]
      | inr e ↦ inr e
    ]

false_from : (b : Bool) → (b ≡ true → ⊥) → b ≡ false
false_from true h = absurd (h refl)
false_from false h = refl

-- ---- the address that was taken out, and those that still wait
pub new_key : (done pending : List ℕ) (a : ℕ) → IsApart done (a ∷ pending) → list_any (nat_eq a) done ≡ false
new_key done pending a apart = false_from _ (λ h. apart a (Contains-from_any exact_unsigned_eq a done h) (head_in a pending))

pub still_apart : (done now pending : List ℕ) (a : ℕ) → IsApart done (a ∷ pending) → All (IsLtBy nat_cmp a) pending → ((q : ℕ) → Contains now q ↔ (Contains done q ⊎ (q ≡ a))) → IsApart now pending
still_apart done now pending a apart above members = λ q d p.
    elim ((members q).0 d) [
      | inl e ↦ apart q e (tail_in a pending q p)
      | inr e ↦ let less = All-contains (IsLtBy nat_cmp a) pending q above p in grind (arith, nat_tests)
    ]

pub still_fits : {X : Type 0} (done : List (ℕ × X)) (pending : List ℕ) (a : ℕ) (v : X) → IsApart (keys_of done) (a ∷ pending) → length (keys_of done) + length (a ∷ pending) ≤ 2 ^ 20 → length (keys_of (insert_entry nat_cmp done a v)) + length pending ≤ 2 ^ 20
still_fits done pending a v apart fits =
    let more = length_permutation _ _ (permutation-insert_entry done a v (new_key (keys_of done) pending a apart)) in
    omega (arith, more, fits)

-- ---- one object more
seen_kept : (heap : ℕ → Object) (done now pending after words : List ℕ) (a q : ℕ) → ((q : ℕ) → Contains now q ↔ (Contains done q ⊎ (q ≡ a))) → AddsToFront now pending (IsNamed words) after → IsSeen done (a ∷ pending) q → IsSeen now after q
seen_kept heap done now pending after words a q members adds s =
    elim s [
      | inl e ↦ inl ((members q).1 (inl e))
      | inr e ↦ elim (in_cons a pending q e) [ inl o ↦ inl ((members q).1 (inr o)) | inr o ↦ (adds.seen q).1 (inl (inr o)) ]
    ]

pub front_step :
    (heap : ℕ → Object) (roots : List ℕ) (done : List (ℕ × Option ObjectError)) (pending after : List ℕ) (room a : ℕ) (found : ObjectRead)
    → IsFront heap roots done (a ∷ pending) room
    → ShowsObject (heap a) room found
    → ((q : ℕ) → Contains (keys_of (insert_entry nat_cmp done a found.broken)) q ↔ (Contains (keys_of done) q ⊎ (q ≡ a)))
    → IsStrictlySortedBy nat_cmp (keys_of (insert_entry nat_cmp done a found.broken))
    → AddsToFront (keys_of (insert_entry nat_cmp done a found.broken)) pending (IsNamed found.words.items) after
    → IsFront heap roots (insert_entry nat_cmp done a found.broken) after (room - found.slots)
front_step heap roots done pending after room a found front shows members ordered adds =
    let now = keys_of (insert_entry nat_cmp done a found.broken) in
    let words = found.words.items in
    let here : IsReached heap roots a = front.reached a (inr (head_in a pending)) in
    let was : (q : ℕ) → Contains now q → IsReached heap roots q =
    λ q h. elim ((members q).0 h) [ inl e ↦ front.reached q (inl e) | inr e ↦ subst (IsReached heap roots) (sym e) here ] in
    record {
      reached = λ q s. elim ((adds.seen q).0 s) [
        | inl e ↦ elim e [ inl o ↦ was q o | inr o ↦ front.reached q (inr (tail_in a pending q o)) ]
        | inr e ↦ reached_child heap roots a q here (shown_child (heap a) room found shows q e)
      ];
      roots_in = λ q n. seen_kept heap (keys_of done) now pending after words a q members adds (front.roots_in q n);
      children_in = λ b c o k. elim ((members b).0 o) [
        | inl e ↦ seen_kept heap (keys_of done) now pending after words a c members adds (front.children_in b c e k)
        | inr e ↦ (adds.seen c).1 (inr (child_shown (heap a) room found shows c (subst (λ n. IsChild (heap n) c) e k)))
      ];
      apart = adds.apart;
      ordered = ordered;
      fits = adds.fits;
      slots = let more = sum_by-insert_entry (λ n. (heap n).slots) done a found.broken (new_key (keys_of done) pending a front.apart) in
          omega (arith, more, front.slots, shows.slots, shows.fits);
      failures = All-insert_entry (λ e. IsBrokenBy (heap e.0).failure e.1) done a found.broken shows.broken front.failures;
    }

-- ---- where the limit is passed
pub overfills_passes : (heap : ℕ → Object) (roots done pending : List ℕ) (Is : ℕ → Type 0) → ((q : ℕ) → IsSeen done pending q → IsReached heap roots q) → ((q : ℕ) → Is q → IsReached heap roots q) → Overfills done pending Is → PassesLimit heap roots
overfills_passes heap roots done pending Is seen named h =
    record {
      list = h.list;
      distinct = h.distinct;
      passes = inl h.passes;
      reached = All-weaker (λ q. IsSeen done pending q ⊎ Is q) (IsReached heap roots) (λ q s. elim s [ inl e ↦ seen q e | inr e ↦ named q e ]) h.list h.known;
    }

pub slots_pass : (heap : ℕ → Object) (roots : List ℕ) (done : List (ℕ × Option ObjectError)) (pending : List ℕ) (room a : ℕ) → IsFront heap roots done (a ∷ pending) room → room < (heap a).slots → PassesLimit heap roots
slots_pass heap roots done pending room a front more =
    let keys = keys_of done in
    record {
      list = a ∷ keys;
      distinct = AllPairs-from_IsDistinct Decides-eqb (a ∷ keys)
          (IsDistinct-cons nat_eq a keys
          (recursion_from_All (λ y. nat_eq a y ≡ false) keys (λ k z l. apart_false a _ (λ same. front.apart a (subst (Contains keys) (sym same) (Contains-get_or keys k z l)) (head_in a pending))))
          (distinct_sorted keys front.ordered));
      reached = All-cons (IsReached heap roots) a keys (front.reached a (inr (head_in a pending))) (λ k z l. front.reached _ (inl (Contains-get_or keys k z l)));
      passes = inr (let sum = sum_by-cons (λ n. (heap n).slots) a keys in omega (arith, sum, front.slots, more));
    }

-- ---- the end
pub addresses-listed : (done : List (ℕ × Option ObjectError)) → addresses (map listed_as done) ≡ keys_of done
addresses-listed [] = refl
addresses-listed (e ∷ es) = ap (λ xs. e.0 ∷ xs) (addresses-listed es)

pub all_read : (heap : ℕ → Object) (roots : List ℕ) (done : List (ℕ × Option ObjectError)) (room : ℕ) → IsFront heap roots done [] room → (q : ℕ) → IsReached heap roots q → Contains (keys_of done) q
all_read heap roots done room front q h =
    let only : (q : ℕ) → IsSeen (keys_of done) [] q → Contains (keys_of done) q = λ q s. elim s [ inl e ↦ e | inr e ↦ absurd (none_in q e) ] in
    reached_within heap roots (Contains (keys_of done)) (λ a r z. only a (front.roots_in a (r, z))) (λ a c s k. only c (front.children_in a c s k)) q h

pub is_reach : (heap : ℕ → Object) (roots : List ℕ) (done : List (ℕ × Option ObjectError)) (room : ℕ) (objects : List ReachObject) → IsFront heap roots done [] room → objects ≡ map listed_as done → IsReach heap roots objects
is_reach heap roots done room objects front e =
    let same : addresses objects ≡ keys_of done = ap addresses e ∙ addresses-listed done in
    record {
      ascending = subst IsStrictlyIncreasing (sym same) (IsStrictlyIncreasing-from_sorted (keys_of done) front.ordered);
      exact = λ q. (
        λ h. front.reached q (inl (subst (λ xs. Contains xs q) same h)),
        λ h. subst (λ xs. Contains xs q) (sym same) (all_read heap roots done room front q h),
      );
      failures = subst (All (λ o. IsBrokenBy (heap o.addr).failure o.broken)) (sym e) (All-map (λ o. IsBrokenBy (heap o.addr).failure o.broken) listed_as done front.failures);
    }

pub within_limit : (heap : ℕ → Object) (roots : List ℕ) (done : List (ℕ × Option ObjectError)) (room : ℕ) → IsFront heap roots done [] room → PassesLimit heap roots → ⊥
within_limit heap roots done room front h =
    let keys = keys_of done in
    let distinct : IsDistinct nat_eq h.list = IsDistinct-from_AllPairs Decides-eqb h.list h.distinct in
    let inside : (q : ℕ) → Contains h.list q → Contains keys q = λ q k. all_read heap roots done room front q (All-contains (IsReached heap roots) h.list q h.reached k) in
    let few = length-le_from_is_member nat_eq_equiv h.list keys distinct (λ q k. list_any-from_Contains nat_eq_equiv q keys (inside q (Contains-from_any exact_unsigned_eq q h.list k))) in
    let small = sum_by-le_distinct (λ n. (heap n).slots) h.list keys distinct inside in
    elim h.passes [ inl e ↦ omega (arith, e, few, front.fits) | inr e ↦ omega (arith, e, small, front.slots) ]

-- ---- the same, as the code has it
pub front_first : (heap : ℕ → Object) (roots : List ℕ) (done : List (ℕ × Option ObjectError)) (old pending : List ℕ) → done ≡ [] → old ≡ [] → AddsToFront (keys_of done) old (IsNamed roots) pending → IsFront heap roots done pending (2 ^ 24)
front_first heap roots done old pending d o h =
    subst (λ (es : List (ℕ × Option ObjectError)). IsFront heap roots es pending (2 ^ 24)) (sym d)
    (front_start heap roots pending (subst (λ ps. AddsToFront [] ps (IsNamed roots) pending) o (subst (λ (es : List (ℕ × Option ObjectError)). AddsToFront (keys_of es) old (IsNamed roots) pending) d h)))

first_seen : (heap : ℕ → Object) (roots : List ℕ) (done : List (ℕ × Option ObjectError)) (old : List ℕ) → done ≡ [] → old ≡ [] → (q : ℕ) → IsSeen (keys_of done) old q → IsReached heap roots q
first_seen heap roots done old d o q s =
    elim s [
      | inl e ↦ absurd (none_in q (subst (λ (es : List (ℕ × Option ObjectError)). Contains (keys_of es) q) d e))
      | inr e ↦ absurd (none_in q (subst (λ ps. Contains ps q) o e))
    ]

-- the roots alone pass the limit
pub roots_pass : (heap : ℕ → Object) (roots : List ℕ) (done : List (ℕ × Option ObjectError)) (old : List ℕ) → done ≡ [] → old ≡ [] → Overfills (keys_of done) old (IsNamed roots) → PassesLimit heap roots
roots_pass heap roots done old d o h =
    overfills_passes heap roots (keys_of done) old (IsNamed roots) (first_seen heap roots done old d o) (λ q n. reached_root heap roots q n.0 n.1) h

-- an object's children pass the limit
pub children_pass :
    (heap : ℕ → Object) (roots : List ℕ) (done now : List (ℕ × Option ObjectError)) (pending : List ℕ) (room a : ℕ) (found : ObjectRead)
    → IsFront heap roots done (a ∷ pending) room
    → ShowsObject (heap a) room found
    → ((q : ℕ) → Contains (keys_of now) q ↔ (Contains (keys_of done) q ⊎ (q ≡ a)))
    → Overfills (keys_of now) pending (IsNamed found.words.items)
    → PassesLimit heap roots
children_pass heap roots done now pending room a found front shows members h =
    let here : IsReached heap roots a = front.reached a (inr (head_in a pending)) in
    overfills_passes heap roots (keys_of now) pending (IsNamed found.words.items)
    (λ q s. elim s [
      | inl e ↦ elim ((members q).0 e) [ inl o ↦ front.reached q (inl o) | inr o ↦ subst (IsReached heap roots) (sym o) here ]
      | inr e ↦ front.reached q (inr (tail_in a pending q e))
    ])
    (λ q n. reached_child heap roots a q here (shown_child (heap a) room found shows q n))
    h

pub fewer_left : {X : Type 0} (done now : List (ℕ × X)) (pending : List ℕ) (a : ℕ) (v : X) → IsApart (keys_of done) (a ∷ pending) → length (keys_of done) + length (a ∷ pending) ≤ 2 ^ 20 → now ≡ insert_entry nat_cmp done a v → 2 ^ 20 - length (keys_of now) < 2 ^ 20 - length (keys_of done)
fewer_left {X} done now pending a v apart fits e =
    let more = length_permutation _ _ (permutation-insert_entry done a v (new_key (keys_of done) pending a apart)) in
    subst (λ (es : List (ℕ × X)). 2 ^ 20 - length (keys_of es) < 2 ^ 20 - length (keys_of done)) (sym e) (omega (arith, more, fits))

nil_from_length : (xs : List ℕ) → (0 < length xs → ⊥) → xs ≡ []
nil_from_length [] h = refl
nil_from_length (x ∷ xs) h = absurd (h (omega arith))

pub front_last : (heap : ℕ → Object) (roots : List ℕ) (done : List (ℕ × Option ObjectError)) (pending : List ℕ) (room : ℕ) → IsFront heap roots done pending room → (0 < length pending → ⊥) → IsFront heap roots done [] room
front_last heap roots done pending room front h = subst (λ ps. IsFront heap roots done ps room) (nil_from_length pending h) front

pub front_next :
    (heap : ℕ → Object) (roots : List ℕ) (done now : List (ℕ × Option ObjectError)) (pending after words : List ℕ) (room a : ℕ) (found : ObjectRead)
    → IsFront heap roots done (a ∷ pending) room
    → ShowsObject (heap a) room found
    → now ≡ insert_entry nat_cmp done a found.broken
    → ((q : ℕ) → Contains (keys_of now) q ↔ (Contains (keys_of done) q ⊎ (q ≡ a)))
    → IsStrictlySortedBy nat_cmp (keys_of now)
    → words ≡ found.words.items
    → AddsToFront (keys_of now) pending (IsNamed words) after
    → IsFront heap roots now after (room - found.slots)
front_next heap roots done now pending after words room a found front shows e members ordered w adds =
    let P : List (ℕ × Option ObjectError) → Type 0 =
    λ es. ((q : ℕ) → Contains (keys_of es) q ↔ (Contains (keys_of done) q ⊎ (q ≡ a)))
    → IsStrictlySortedBy nat_cmp (keys_of es)
    → AddsToFront (keys_of es) pending (IsNamed found.words.items) after
    → IsFront heap roots es after (room - found.slots) in
    subst P (sym e) (front_step heap roots done pending after room a found front shows) members ordered
    (subst (λ ws. AddsToFront (keys_of now) pending (IsNamed ws) after) w adds)
