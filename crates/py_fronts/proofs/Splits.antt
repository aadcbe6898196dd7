-- Lists in three parts.
use Rattle.std.proofs.Common.{◌≡◌, ℕ, zero, suc, ◌+◌, ◌*◌, ◌-◌, ◌<◌, List, [], ◌∷◌, ◌++◌, length, take, drop, refl, sym}
use Rattle.std.proofs.Common.{◌∙◌, ap, arith, length-append}
use Rattle.std.proofs.lemmas.List.{take-append-drop}
use Rattle.std.proofs.Math.Seq.{drop-append_seam, take-append_seam}

drop_more : (a b : ℕ) (xs : List ℕ) → drop (a + b) xs ≡ drop b (drop a xs)
drop_more zero b xs = ap (λ n. drop n xs) (omega arith)
drop_more (suc a) zero [] = let e : suc a + 0 ≡ suc a = omega arith in rw e refl
drop_more (suc a) (suc b) [] = let e : suc a + suc b ≡ suc (a + suc b) = omega arith in rw e refl
drop_more (suc a) b (x ∷ xs) = let e : suc a + b ≡ suc (a + b) = omega arith in rw e (drop_more a b xs)

pub three_parts : (limit : ℕ) (xs : List ℕ) → 2 * limit < length xs
    → xs ≡ take limit xs ++ (take (length xs - 2 * limit) (drop limit xs) ++ drop (length xs - limit) xs)
three_parts limit xs lt =
    let n : length xs - limit ≡ limit + (length xs - 2 * limit) = omega arith in
    sym (take-append-drop limit xs) ∙ ap (λ ys. take limit xs ++ ys) (sym (take-append-drop (length xs - 2 * limit) (drop limit xs))
    ∙ ap (λ ys. take (length xs - 2 * limit) (drop limit xs) ++ ys) (sym (drop_more limit (length xs - 2 * limit) xs) ∙ ap (λ i. drop i xs) (sym n)))

pub first_part : (limit : ℕ) (kept first rest : List ℕ) → kept ≡ first ++ rest → length first ≡ limit → take limit kept ≡ first
first_part limit kept first rest e n = rw (e, ← n) (take-append_seam first rest)

pub last_part : (limit : ℕ) (kept front last : List ℕ) → kept ≡ front ++ last → length last ≡ limit → drop (length kept - limit) kept ≡ last
last_part limit kept front last e n =
    let i : length kept - limit ≡ length front = omega (arith, ap length e, length-append front last) in
    rw i (ap (drop (length front)) e ∙ drop-append_seam front last)
