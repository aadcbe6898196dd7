-- A tag that is read pair by pair.
use Rattle.std.proofs.Common.{◌≡◌, ℕ, ◌+◌, ◌*◌, ◌<◌, ◌≤◌, suc, List, [], ◌∷◌, ◌++◌, length, take, drop, get_or, set}
use Rattle.std.proofs.Common.{refl, sym, ap, ◌∙◌, arith, Option, Some, None, append_assoc, drop-cons}
use Rattle.std.proofs.lemmas.List.{take_more_set, take_all, drop_all}
use Rattle.normalize_core.specs.Tags.{pair_value, before, pairs_of}

-- some bytes in front of those that are read
abbrev pub after : List ℕ → Option (List ℕ) → Option (List ℕ)
after front None = None
after front (Some bytes) = Some (front ++ bytes)

pub after-none : (rest : Option (List ℕ)) → rest ≡ after [] rest
after-none None = refl
after-none (Some bytes) = refl

after-more : (front : List ℕ) (byte : ℕ) (rest : Option (List ℕ))
    → after front (before (Some byte) rest) ≡ after (front ++ byte ∷ []) rest
after-more front byte None = refl
after-more front byte (Some bytes) = ap (λ (bs : List ℕ). Some bs) (sym (append_assoc front (byte ∷ []) bytes))

-- a pair stands here
pair_here : (text : List ℕ) (i : ℕ) → 2 * i + 1 < length text
    → drop (2 * i) text ≡ get_or text (2 * i) 0 ∷ (get_or text (2 * i + 1) 0 ∷ drop (2 * (i + 1)) text)
pair_here text i lt =
    let one : drop (2 * i) text ≡ get_or text (2 * i) 0 ∷ drop (suc (2 * i)) text = drop-cons text (2 * i) 0 (omega arith) in
    let two : drop (2 * i + 1) text ≡ get_or text (2 * i + 1) 0 ∷ drop (suc (2 * i + 1)) text = drop-cons text (2 * i + 1) 0 lt in
    let e : suc (2 * i) ≡ 2 * i + 1 = omega arith in
    let f : suc (2 * i + 1) ≡ 2 * (i + 1) = omega arith in
    one ∙ ap (λ k. get_or text (2 * i) 0 ∷ drop k text) e
    ∙ ap (λ xs. get_or text (2 * i) 0 ∷ xs) (two ∙ ap (λ k. get_or text (2 * i + 1) 0 ∷ drop k text) f)

pairs_here : (text : List ℕ) (i : ℕ) → 2 * i + 1 < length text
    → pairs_of (drop (2 * i) text)
    ≡ before (pair_value (get_or text (2 * i) 0) (get_or text (2 * i + 1) 0)) (pairs_of (drop (2 * (i + 1)) text))
pairs_here text i lt = ap pairs_of (pair_here text i lt)

pub pair_read : (text tag : List ℕ) (i byte : ℕ) → 2 * i + 1 < length text → i < length tag
    → pairs_of text ≡ after (take i tag) (pairs_of (drop (2 * i) text))
    → Some byte ≡ pair_value (get_or text (2 * i) 0) (get_or text (2 * i + 1) 0)
    → pairs_of text ≡ after (take (i + 1) (set tag i byte)) (pairs_of (drop (2 * (i + 1)) text))
pair_read text tag i byte lt room h is =
    let rest = pairs_of (drop (2 * (i + 1)) text) in
    h ∙ ap (λ r. after (take i tag) r) (pairs_here text i lt ∙ ap (λ v. before v rest) (sym is))
    ∙ after-more (take i tag) byte rest
    ∙ ap (λ front. after front rest) (sym (take_more_set tag i byte room))

pub pair_not_read : (text tag : List ℕ) (i : ℕ) → 2 * i + 1 < length text
    → pairs_of text ≡ after (take i tag) (pairs_of (drop (2 * i) text))
    → None ≡ pair_value (get_or text (2 * i) 0) (get_or text (2 * i + 1) 0)
    → pairs_of text ≡ None
pair_not_read text tag i lt h is =
    let rest = pairs_of (drop (2 * (i + 1)) text) in
    h ∙ ap (λ r. after (take i tag) r) (pairs_here text i lt ∙ ap (λ v. before v rest) (sym is))

append-nothing : (xs : List ℕ) → xs ++ [] ≡ xs
append-nothing [] = refl
append-nothing (x ∷ xs) = ap (λ ys. x ∷ ys) (append-nothing xs)

pub all_read : (text tag : List ℕ) (i : ℕ) → length text ≤ 2 * i → length tag ≤ i
    → pairs_of text ≡ after (take i tag) (pairs_of (drop (2 * i) text)) → pairs_of text ≡ Some tag
all_read text tag i end full h =
    h ∙ ap (λ s. after (take i tag) (pairs_of s)) (drop_all (2 * i) text end)
    ∙ ap (λ (bs : List ℕ). Some bs) (append-nothing (take i tag) ∙ take_all i tag full)
