-- What std reads as a number is what `digits_in` says.
use Rattle.std.proofs.Common.{◌≡◌, ◌≢◌, ℕ, ◌^◌, ◌<◌, ◌≤◌, true, nat_lt, nat_le, List, [], ◌∷◌, length, Some, None}
use Rattle.std.proofs.Common.{Result, Ok, Err, refl, sym, ap, subst, ◌∙◌, arith, ⊎_elim}
use Rattle.std.specs.Prelude.{◌&&◌, slice_index}
use Rattle.std.proofs.lemmas.Bool.{cases_Bool, cond-true, cond-false, and_parts}
use Rattle.std.proofs.lemmas.Bool.Decides.{nat_tests}
use Rattle.std.proofs.lemmas.Str.Parse.{without_leading_plus_none}
use Rattle.std.specs.Char.{digit_value}
use Rattle.std.specs.List.{list_all}
use Rattle.std.specs.Result.{result_ok}
use Rattle.std.specs.Str.Parse.{AllDigits, IsNumeral, digits_value, ParsesUnsigned}
use Rattle.core_words.specs.Words.{is_numeral, digits_in}

all_digits-true : (radix : ℕ) (ds : List ℕ) → AllDigits radix ds → list_all (λ c. nat_lt (digit_value c) radix) ds ≡ true
all_digits-true radix [] all = refl
all_digits-true radix (c ∷ cs) all =
    let first : nat_lt (digit_value c) radix ≡ true = grind (arith, nat_tests, all.0) in
    ap (λ b. b && list_all (λ c. nat_lt (digit_value c) radix) cs) first ∙ all_digits-true radix cs all.1

all_digits-from : (radix : ℕ) (ds : List ℕ) → list_all (λ c. nat_lt (digit_value c) radix) ds ≡ true → AllDigits radix ds
all_digits-from radix [] all = tt
all_digits-from radix (c ∷ cs) all =
    let both = and_parts (nat_lt (digit_value c) radix) _ all in
    let first : digit_value c < radix = grind (arith, nat_tests, both.0) in
    (first, all_digits-from radix cs both.1)

numeral-true : (radix most : ℕ) (ds : List ℕ) → IsNumeral radix ds → length ds ≤ most → digits_value radix ds < 2 ^ 64 → is_numeral radix most ds ≡ true
numeral-true radix most ds is fits small =
    let a : nat_lt 0 (length ds) ≡ true = grind (arith, nat_tests, is.0) in
    let b : nat_le (length ds) most ≡ true = grind (arith, nat_tests, fits) in
    let c = all_digits-true radix ds is.1 in
    let d : nat_lt (digits_value radix ds) (2 ^ 64) ≡ true = grind (arith, nat_tests, small) in
    ap (λ x. x && (nat_le (length ds) most && (list_all (λ c. nat_lt (digit_value c) radix) ds && nat_lt (digits_value radix ds) (2 ^ 64)))) a
    ∙ ap (λ x. x && (list_all (λ c. nat_lt (digit_value c) radix) ds && nat_lt (digits_value radix ds) (2 ^ 64))) b
    ∙ ap (λ x. x && nat_lt (digits_value radix ds) (2 ^ 64)) c ∙ d

numeral-from : (radix most : ℕ) (ds : List ℕ) → is_numeral radix most ds ≡ true → IsNumeral radix ds × (digits_value radix ds < 2 ^ 64)
numeral-from radix most ds is =
    let one = and_parts (nat_lt 0 (length ds)) _ is in
    let two = and_parts (nat_le (length ds) most) _ one.1 in
    let three = and_parts (list_all (λ c. nat_lt (digit_value c) radix) ds) _ two.1 in
    let some : 0 < length ds = grind (arith, nat_tests, one.0) in
    let small : digits_value radix ds < 2 ^ 64 = grind (arith, nat_tests, three.1) in
    ((some, all_digits-from radix ds three.0), small)

pub digits_parsed : {E : Type 0} (radix most : ℕ) (ds : List ℕ) (r : Result ℕ E) → ParsesUnsigned 64 radix ds r
    → length ds ≤ most → slice_index ds 0 ≢ 43 → result_ok r ≡ digits_in radix most ds
digits_parsed radix most ds (Ok x) reads fits plain =
    let same = without_leading_plus_none ds plain in
    let is : IsNumeral radix ds = subst (λ t. IsNumeral radix t) same reads.0.0 in
    let small : digits_value radix ds < 2 ^ 64 = subst (λ t. digits_value radix t < 2 ^ 64) same reads.0.1 in
    ap (λ n. Some n) (reads.1 ∙ ap (digits_value radix) same)
    ∙ sym (cond-true _ (Some (digits_value radix ds)) None (numeral-true radix most ds is fits small))
digits_parsed radix most ds (Err e) refused fits plain =
    let same = sym (without_leading_plus_none ds plain) in
    ⊎_elim
    (λ yes. let is = numeral-from radix most ds yes in
    absurd (refused (subst (λ t. IsNumeral radix t) same is.0, subst (λ t. digits_value radix t < 2 ^ 64) same is.1)))
    (λ no. sym (cond-false _ (Some (digits_value radix ds)) None no))
    (cases_Bool (is_numeral radix most ds))
