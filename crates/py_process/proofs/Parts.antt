-- The last part of a path, and the parts of a text between its dots.
use Rattle.std.proofs.Common.{◌≡◌, ℕ, ◌+◌, ◌-◌, ◌<◌, ◌≤◌, true, false, List, [], ◌∷◌, length, get_or, take, drop, sym}
use Rattle.std.proofs.Common.{ap, ◌∙◌, arith, length-drop}
use Rattle.std.specs.Prelude.{All, not}
use Rattle.std.specs.List.{after_first, after_last, position_or_len, slice_split, suffix_len}
use Rattle.std.proofs.lemmas.List.Sums.{position_or_len_is, suffix_len_is}
use Rattle.std.proofs.lemmas.List.{take_all}
use Rattle.std.proofs.lemmas.List.Elements.{All-from_get_or}
use Rattle.std.proofs.lemmas.List.Splits.{slice_split_first, slice_split_none}
use Rattle.py_fields.specs.Version.{is_dot}
use Rattle.py_process.specs.FileVersions.{is_slash}

-- all of what stands from a place on
rest_whole : (text : List ℕ) (start : ℕ) → take (length text - start) (drop start text) ≡ drop start text
rest_whole text start = take_all (length text - start) (drop start text) (omega (arith, length-drop start text))

-- ---- behind the last slash

pub last_is : (path : List ℕ) (start : ℕ) → start ≤ length path → ((k : ℕ) → start ≤ k → k < length path → is_slash (get_or path k 0) ≡ false)
    → (0 < start → is_slash (get_or path (start - 1) 0) ≡ true) → take (length path - start) (drop start path) ≡ after_last is_slash path
last_is path start le after slash =
    let len : suffix_len (λ c. not (is_slash c)) path ≡ length path - start =
    suffix_len_is (λ c. not (is_slash c)) path start 0 le (λ k a b. ap not (after k a b)) (λ h. ap not (slash h)) in
    let place : start ≡ length path - suffix_len (λ c. not (is_slash c)) path = omega (arith, len) in
    rest_whole path start ∙ ap (λ n. drop n path) place

-- ---- between dots

place_is : (text : List ℕ) (place : ℕ) → place ≤ length text → ((k : ℕ) → k < place → is_dot (get_or text k 0) ≡ false) → (place < length text → is_dot (get_or text place 0) ≡ true)
    → position_or_len is_dot text ≡ place
place_is text place le before dot = position_or_len_is is_dot text place 0 le before dot

all_from : (text : List ℕ) → ((k : ℕ) → k < length text → is_dot (get_or text k 0) ≡ false) → All (λ c. is_dot c ≡ false) text
all_from text h = All-from_get_or (λ c. is_dot c ≡ false) text 0 h

pub one_part : (text : List ℕ) (place : ℕ) → place ≡ length text → ((k : ℕ) → k < place → is_dot (get_or text k 0) ≡ false) → slice_split is_dot text ≡ text ∷ []
one_part text place is before = slice_split_none is_dot text (all_from text (λ k lt. before k (omega arith)))

pub two_parts : (text : List ℕ) (place : ℕ) → place < length text → ((k : ℕ) → k < place → is_dot (get_or text k 0) ≡ false) → is_dot (get_or text place 0) ≡ true
    → slice_split is_dot text ≡ take place text ∷ slice_split is_dot (take (length text - (place + 1)) (drop (place + 1) text))
two_parts text place lt before dot =
    let is = place_is text place (omega arith) before (λ h. dot) in
    slice_split_first is_dot text 0 (omega (arith, is)) ∙ ap (λ n. take n text ∷ slice_split is_dot (after_first is_dot text)) is
    ∙ ap (λ n. take place text ∷ slice_split is_dot (drop (n + 1) text)) is
    ∙ ap (λ rest. take place text ∷ slice_split is_dot rest) (sym (rest_whole text (place + 1)))
