-- A tag that is printed reads back as itself.
use Rattle.std.proofs.Common.{◌≡◌, ℕ, ◌+◌, ◌*◌, ◌/◌, ◌%◌, ◌<◌, true, false, cond, List, [], ◌∷◌, ◌++◌, length, take}
use Rattle.std.proofs.Common.{get_or, eqb, ltb, refl, sym, ap, ◌∙◌, arith, Option, Some, None}
use Rattle.std.specs.Char.{digit_value}
use Rattle.std.specs.Fmt.{digit_glyph}
use Rattle.std.specs.Prelude.{All}
use Rattle.std.proofs.lemmas.Bool.{agree_below_at, eqb-true, lt-ltb, cond-true, cond-false, eq-eqb}
use Rattle.std.proofs.lemmas.List.{take_more}
use Rattle.std.proofs.lemmas.List.Elements.{All-head, All-tail}
use Rattle.normalize_core.specs.Tags.{tag_text, hex_value, first_value, joined_digits, pair_value, before, pairs_of}
use Rattle.normalize_core.specs.Tags.{tag_of}

-- the value of the digit that is written for a number
glyph_value : (d : ℕ) → d < 16 → digit_value (digit_glyph false d) ≡ d
glyph_value d lt =
    eqb-true _ _ (agree_below_at (λ n. eqb (digit_value (digit_glyph false n)) n) (λ n. true) 16 d refl lt)

glyph_is_no_plus : (d : ℕ) → d < 16 → eqb (digit_glyph false d) 43 ≡ false
glyph_is_no_plus d lt = agree_below_at (λ n. eqb (digit_glyph false n) 43) (λ n. false) 16 d refl lt

abbrev valued : ℕ → Option ℕ
valued n = cond (ltb n 16) (Some n) None

glyph_hex : (d : ℕ) → d < 16 → hex_value (digit_glyph false d) ≡ Some d
glyph_hex d lt = ap valued (glyph_value d lt) ∙ cond-true (ltb d 16) (Some d) None (lt-ltb d 16 lt)

glyph_first : (d : ℕ) → d < 16 → first_value (digit_glyph false d) ≡ Some d
glyph_first d lt =
    cond-false (eqb (digit_glyph false d) 43) (Some 0) (hex_value (digit_glyph false d)) (glyph_is_no_plus d lt)
    ∙ glyph_hex d lt

pair_back : (b : ℕ) → b < 256 → pair_value (digit_glyph false (b / 16)) (digit_glyph false (b % 16)) ≡ Some b
pair_back b lt =
    let high : b / 16 < 16 = omega arith in
    let low : b % 16 < 16 = omega arith in
    let whole : 16 * (b / 16) + b % 16 ≡ b = omega arith in
    ap (λ h. joined_digits h (hex_value (digit_glyph false (b % 16)))) (glyph_first (b / 16) high)
    ∙ ap (λ l. joined_digits (Some (b / 16)) l) (glyph_hex (b % 16) low)
    ∙ ap (λ n. Some n) whole

abbrev IsByte : ℕ → Type 0
IsByte n = n < 256

pairs_back : (bytes : List ℕ) → All IsByte bytes → pairs_of (tag_text bytes) ≡ Some bytes
pairs_back [] h = refl
pairs_back (b ∷ bytes) h =
    ap (λ p. before p (pairs_of (tag_text bytes))) (pair_back b (All-head IsByte b bytes h))
    ∙ ap (λ r. before (Some b) r) (pairs_back bytes (All-tail IsByte b bytes h))

length_text : (bytes : List ℕ) → length (tag_text bytes) ≡ 2 * length bytes
length_text [] = refl
length_text (b ∷ bytes) = let e = length_text bytes in omega (arith, e)

pub reads_back : (bytes : List ℕ) → length bytes ≡ 8 → All IsByte bytes → tag_of (tag_text bytes) ≡ Some bytes
reads_back bytes eight h =
    let long = length_text bytes in
    let sixteen : length (tag_text bytes) ≡ 16 = omega (arith, long, eight) in
    cond-true (eqb (length (tag_text bytes)) 16) (pairs_of (tag_text bytes)) None (eq-eqb _ _ sixteen)
    ∙ pairs_back bytes h

-- the text of one byte more
tag_text-append : (xs ys : List ℕ) → tag_text xs ++ tag_text ys ≡ tag_text (xs ++ ys)
tag_text-append [] ys = refl
tag_text-append (x ∷ xs) ys =
    ap (λ t. digit_glyph false (x / 16) ∷ (digit_glyph false (x % 16) ∷ t)) (tag_text-append xs ys)

pub tag_text-more : (xs : List ℕ) (i : ℕ) → i < length xs
    → tag_text (take i xs) ++ tag_text (get_or xs i 0 ∷ []) ≡ tag_text (take (i + 1) xs)
tag_text-more xs i lt = tag_text-append (take i xs) (get_or xs i 0 ∷ []) ∙ ap tag_text (sym (take_more xs i 0 lt))
