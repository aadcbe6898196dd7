-- Where the first nul stands from a place on, by parts.
use Rattle.std.proofs.Common.{◌≡◌, ℕ, zero, suc, ◌+◌, ◌-◌, ◌≤◌, ◌<◌, Bool, true, false, cond, List, [], ◌∷◌, length, take, drop, min}
use Rattle.std.proofs.Common.{Option, Some, None, refl, sym, ap, subst, ◌∙◌, arith, ⊎_elim, length-drop}
use Rattle.std.specs.Prelude.{option_map, slice_range, IfSome}
use Rattle.std.specs.Option.{option_or}
use Rattle.std.specs.List.{position, position_from}
use Rattle.std.proofs.lemmas.List.{drop-drop, drop_all}
use Rattle.std.proofs.lemmas.Bool.{cases_lt}
use Rattle.std.proofs.lemmas.List.Quantifiers.{position-Some}
use Rattle.std.proofs.lemmas.Iterator.Adapters.{position_from-zero}
use Rattle.elf64_core.specs.Nul.{is_nul, nul_from, until_nul, string_at}

-- counted from a later number on
position_from-shift : (t : ℕ → Bool) (i j : ℕ) (xs : List ℕ)
    → option_map (λ k. i + k) (position_from t j xs) ≡ position_from t (i + j) xs
position_from-shift t i j [] = refl
position_from-shift t i j (x ∷ xs) =
    let e : option_map (λ k. i + k) (position_from t (j + 1) xs) ≡ position_from t (i + j + 1) xs =
    position_from-shift t i (j + 1) xs ∙ ap (λ n. position_from t n xs) (omega arith) in
    elim (t x) as (λ b. option_map (λ k. i + k) (cond b (Some j) (position_from t (j + 1) xs)) ≡ cond b (Some (i + j)) (position_from t (i + j + 1) xs))
    [ true ↦ refl | false ↦ e ]

pub position-from : (i : ℕ) (xs : List ℕ) → option_map (λ k. i + k) (position is_nul xs) ≡ position_from is_nul i xs
position-from i xs =
    ap (option_map (λ k. i + k)) (position_from-zero is_nul xs) ∙ position_from-shift is_nul i 0 xs
    ∙ ap (λ n. position_from is_nul n xs) (omega arith)

-- by the first part and what comes then
position_from-parts : (t : ℕ → Bool) (n i : ℕ) (xs : List ℕ)
    → position_from t i xs ≡ option_or (position_from t i (take n xs)) (position_from t (i + n) (drop n xs))
position_from-parts t zero i xs = ap (λ n. position_from t n xs) (omega arith)
position_from-parts t (suc n) i [] = refl
position_from-parts t (suc n) i (x ∷ xs) =
    let rest = position_from t (i + suc n) (drop n xs) in
    let e : position_from t (i + 1) xs ≡ option_or (position_from t (i + 1) (take n xs)) rest =
    position_from-parts t n (i + 1) xs ∙ ap (λ m. option_or (position_from t (i + 1) (take n xs)) (position_from t m (drop n xs))) (omega arith) in
    elim (t x) as (λ b. cond b (Some i) (position_from t (i + 1) xs) ≡ option_or (cond b (Some i) (position_from t (i + 1) (take n xs))) rest)
    [ true ↦ refl | false ↦ e ]

pub nul_from-parts : (bytes : List ℕ) (at n : ℕ)
    → nul_from bytes at ≡ option_or (position_from is_nul at (take n (drop at bytes))) (nul_from bytes (at + n))
nul_from-parts bytes at n =
    position_from-parts is_nul n at (drop at bytes)
    ∙ ap (λ xs. option_or (position_from is_nul at (take n (drop at bytes))) (position_from is_nul (at + n) xs)) (drop-drop n at bytes)

-- none stands past the end
pub nul_from-past : (bytes : List ℕ) (at : ℕ) → length bytes ≤ at → nul_from bytes at ≡ None
nul_from-past bytes at past = ap (position_from is_nul at) (drop_all at bytes past)

-- as the first parts are looked at, by what stands in them
pub found_before : (bytes : List ℕ) (at n size : ℕ) → position is_nul (take n (drop at bytes)) ≡ Some size
    → nul_from bytes at ≡ Some (at + size)
found_before bytes at n size is =
    nul_from-parts bytes at n
    ∙ ap (λ o. option_or o (nul_from bytes (at + n))) (sym (position-from at (take n (drop at bytes))) ∙ ap (option_map (λ k. at + k)) is)

pub none_before : (bytes : List ℕ) (at n : ℕ) → position is_nul (take n (drop at bytes)) ≡ None
    → nul_from bytes at ≡ nul_from bytes (at + n)
none_before bytes at n is =
    nul_from-parts bytes at n
    ∙ ap (λ o. option_or o (nul_from bytes (at + n))) (sym (position-from at (take n (drop at bytes))) ∙ ap (option_map (λ k. at + k)) is)

-- the string before an end
sized : (at : ℕ) (xs : List ℕ) (o : Option ℕ)
    → option_map (λ e. take (e - at) xs) (option_map (λ k. at + k) o) ≡ option_map (λ size. take size xs) o
sized at xs None = refl
sized at xs (Some k) = let e : at + k - at ≡ k = omega arith in ap (λ n. Some (take n xs)) e

pub string_at-by : (bytes : List ℕ) (at : ℕ)
    → option_map (λ e. slice_range bytes at e) (nul_from bytes at) ≡ string_at bytes at
unfolding string_at until_nul
string_at-by bytes at =
    ap (option_map (λ e. take (e - at) (drop at bytes))) (sym (position-from at (drop at bytes)))
    ∙ sized at (drop at bytes) (position is_nul (drop at bytes))

cut_end : (bytes : List ℕ) (later end : ℕ) → end ≡ min (length bytes) later → nul_from bytes end ≡ nul_from bytes later
cut_end bytes later end is = ⊎_elim
    (λ (short : length bytes < later). nul_from-past bytes end (omega arith) ∙ sym (nul_from-past bytes later (omega arith)))
    (λ (long : later ≤ length bytes). let same : end ≡ later = omega arith in ap (nul_from bytes) same)
    (cases_lt (length bytes) later)

-- what is known for a later place, where none stands before
pub none_until : (bytes : List ℕ) (at later end : ℕ) → at ≤ length bytes → at ≤ later → end ≡ min (length bytes) later
    → position is_nul (take (end - at) (drop at bytes)) ≡ None → nul_from bytes later ≡ nul_from bytes at
none_until bytes at later end inside ordered is none =
    let same : at + (end - at) ≡ end = omega arith in
    sym (none_before bytes at (end - at) none ∙ ap (nul_from bytes) same ∙ cut_end bytes later end is)

past_start : (at : ℕ) (xs : List ℕ) (o : Option ℕ) → position is_nul xs ≡ o
    → IfSome (option_map (λ k. at + k) o) (λ end. (at ≤ end) × (end ≤ at + length xs))
past_start at xs None is = tt
past_start at xs (Some k) is = let p = position-Some is_nul xs k 0 is in (omega arith, omega (arith, p.0))

pub nul_from-inside : (bytes : List ℕ) (at : ℕ) → at ≤ length bytes
    → IfSome (nul_from bytes at) (λ end. (at ≤ end) × (end ≤ length bytes))
nul_from-inside bytes at inside =
    let width : at + length (drop at bytes) ≡ length bytes = omega (arith, length-drop at bytes) in
    subst (λ o. IfSome o (λ end. (at ≤ end) × (end ≤ length bytes))) (position-from at (drop at bytes))
    (subst (λ n. IfSome (option_map (λ k. at + k) (position is_nul (drop at bytes))) (λ end. (at ≤ end) × (end ≤ n))) width
    (past_start at (drop at bytes) (position is_nul (drop at bytes)) refl))
