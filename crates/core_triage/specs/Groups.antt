-- A list in groups of its elements that are the same. This project's own rule.
use Rattle.std.specs.Prelude.{◌≡◌, ℕ, ◌+◌, ◌<◌, ◌↔◌, nat_eq, nat_lt, Bool, List, [], ◌∷◌, map, length, get_or}
use Rattle.std.specs.Prelude.{slice_get, Some, All, Any, Contains, count_by, if◌then◌else◌}
use Rattle.std.specs.List.{concat, list_any}
use Rattle.std.specs.List.Sorted.{IsStrictlyIncreasing}

module _ {K : Type 0} where
  -- the places at which elements stand that pass a test, ascending, counted from `at` on
  abbrev pub places_from : (K → Bool) → ℕ → List K → List ℕ
  places_from passes at [] = []
  places_from passes at (x ∷ xs) =
      if passes x then (at ∷ places_from passes (at + 1) xs) else places_from passes (at + 1) xs

  -- the elements that are the same as none before them, neither of these nor of the list
  abbrev pub firsts_after : (K → K → Bool) → List K → List K → List K
  firsts_after same before [] = []
  firsts_after same before (x ∷ xs) = if list_any (same x) before
      then firsts_after same before xs
      else (x ∷ firsts_after same (x ∷ before) xs)

  -- the groups: for each element that is the same as none before it the places of all that are the same
  unfoldable pub groups_of : (K → K → Bool) → List K → List (List ℕ)
  groups_of same xs = map (λ x. places_from (same x) 0 xs) (firsts_after same [] xs)

-- ---- what groups are, whatever made them

-- how many times a number stands in a list
abbrev pub times : ℕ → List ℕ → ℕ
times n ns = count_by (λ m. nat_eq m n) ns

-- one of the groups has both places
abbrev pub StandTogether : List (List ℕ) → ℕ → ℕ → Type 0
StandTogether groups p q = Any (λ group. Contains group p × Contains group q) groups

-- The places of a list's elements in groups, by which elements are the same
pub record IsGrouping {K : Type 0} (Same : K → K → Type 0) (xs : List K) (groups : List (List ℕ)) : Type 0 where
  -- each element's place stands in one group, and once; no other number stands in any
  pub once : (place : ℕ) → times place (concat groups) ≡ (if nat_lt place (length xs) then 1 else 0)
  -- two places stand in one group exactly where their elements are the same
  pub together : (p q : ℕ) (x y : K) → slice_get xs p ≡ Some x → slice_get xs q ≡ Some y
      → StandTogether groups p q ↔ Same x y
  -- in each group the places ascend, no group is empty, and groups stand in the order of their first places
  pub ascend : All IsStrictlyIncreasing groups
  pub filled : All (λ group. 0 < length group) groups
  pub in_order : IsStrictlyIncreasing (map (λ group. get_or group 0 0) groups)
