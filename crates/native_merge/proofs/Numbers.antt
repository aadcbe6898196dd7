-- Numbers in front of a text: where they end, and that parsing their digits gives them.
use Rattle.std.proofs.Common.{◌≡◌, ◌≢◌, ◌<◌, ◌+◌, ℕ, zero, suc, true, false, cond, List, [], ◌∷◌, length, take, get_or}
use Rattle.std.proofs.Common.{refl, sym, subst, ◌∙◌, arith}
use Rattle.std.specs.Prelude.{◌==◌, ◌^◌, Some, None, Result, Ok, Err, OkIff}
use Rattle.std.specs.Result.{result_ok}
use Rattle.std.specs.List.{prefix_len}
use Rattle.std.specs.Char.{is_ascii_digit}
use Rattle.std.specs.Int.{IsInRange}
use Rattle.std.specs.Str.{IsUtf8, IsCharBoundary}
use Rattle.std.specs.Str.Parse.{AllDigits, IsNumeral, ParsesUnsigned, digits_value, without_leading_plus}
use Rattle.std.proofs.lemmas.Bool.Decides.{nat_tests}
use Rattle.std.proofs.lemmas.Option.{same_Some}
use Rattle.std.proofs.lemmas.List.Sums.{prefix_len_passes, prefix_len-le-length}
use Rattle.std.proofs.lemmas.Str.{IsCharBoundary-start, IsCharBoundary-after_ascii, digit_value_digit}
use Rattle.std.proofs.lemmas.Str.Parse.{digit_at}
use Rattle.native_merge.specs.Digits.{leading_digits, HasNumber}

digit_low : (c : ℕ) → is_ascii_digit c ≡ true → c < 128
digit_low c is = grind (arith, nat_tests, is)

digit_range : (c : ℕ) → is_ascii_digit c ≡ true → IsInRange 48 57 c
digit_range c is = grind (arith, nat_tests, is)

one_plus : (n : ℕ) → 1 + n ≡ suc n
one_plus n = omega arith

boundary_at : (text : List ℕ) (n : ℕ) → n ≡ prefix_len is_ascii_digit text → IsUtf8 text → IsCharBoundary text n
boundary_at text zero e utf8 = IsCharBoundary-start text utf8
boundary_at text (suc n) e utf8 =
    let within : n < length text = omega (arith, e, prefix_len-le-length is_ascii_digit text) in
    let digit : is_ascii_digit (get_or text n 0) ≡ true = prefix_len_passes is_ascii_digit text n 0 (omega (arith, e)) in
    let next : n + 1 ≡ suc n = omega arith in
    subst (IsCharBoundary text) next (IsCharBoundary-after_ascii text n utf8 within (digit_low (get_or text n 0) digit))

-- a text may be cut behind its digits
pub digits_border : (text : List ℕ) → IsUtf8 text → IsCharBoundary text (prefix_len is_ascii_digit text)
digits_border text utf8 = boundary_at text (prefix_len is_ascii_digit text) refl utf8

pub leading_are_digits : (text : List ℕ) → AllDigits 10 (leading_digits text)
leading_are_digits [] = tt
leading_are_digits (c ∷ cs) = (elim (is_ascii_digit c) as (λ b. is_ascii_digit c ≡ b → AllDigits 10 (take (cond b (1 + prefix_len is_ascii_digit cs) 0) (c ∷ cs))) [
  | true ↦ λ is. rw (one_plus (prefix_len is_ascii_digit cs)) (omega (arith, digit_value_digit c (digit_range c is), (digit_range c is).1), leading_are_digits cs)
  | false ↦ λ _. tt
]) refl

pub no_plus : (text : List ℕ) → AllDigits 10 text → without_leading_plus text ≡ text
no_plus [] all = refl
no_plus (c ∷ cs) all =
    let range : IsInRange 48 57 c = digit_at (c ∷ cs) 0 all (omega arith) in
    let other : (c == 43) ≡ false = grind (arith, nat_tests, range) in
    rw other refl

some_length : (text : List ℕ) → text ≢ [] → 0 < length text
some_length [] some = absurd (some refl)
some_length (c ∷ cs) some = omega arith

length_some : (text : List ℕ) → 0 < length text → text ≢ []
length_some [] some e = absurd (omega (arith, some))
length_some (c ∷ cs) some e = absurd (cc)

-- what parsing says of the digits themselves
parses_own : {E : Type 0} (text : List ℕ) (r : Result ℕ E) → AllDigits 10 text → ParsesUnsigned 64 10 text r
    → OkIff r (IsNumeral 10 text × (digits_value 10 text < 2 ^ 64)) (digits_value 10 text)
parses_own {E} text r all parses =
    subst (λ (ds : List ℕ). OkIff r (IsNumeral 10 ds × (digits_value 10 ds < 2 ^ 64)) (digits_value 10 ds)) (no_plus text all) parses

fails : {E : Type 0} (text : List ℕ) (r : Result ℕ E) → OkIff r (IsNumeral 10 (leading_digits text) × (digits_value 10 (leading_digits text) < 2 ^ 64)) (digits_value 10 (leading_digits text))
    → result_ok r ≡ None → HasNumber text → ⊥
fails text (Ok n) is none has = absurd (cc)
fails text (Err e) is none has = is ((some_length (leading_digits text) has.some, leading_are_digits text), has.fits)

gives : {E : Type 0} (text : List ℕ) (r : Result ℕ E) (n : ℕ) → OkIff r (IsNumeral 10 (leading_digits text) × (digits_value 10 (leading_digits text) < 2 ^ 64)) (digits_value 10 (leading_digits text))
    → result_ok r ≡ Some n → HasNumber text × (n ≡ digits_value 10 (leading_digits text))
gives text (Ok v) n is e = (record { some = length_some (leading_digits text) is.0.0.0; fits = is.0.1 }, sym (same_Some v n e) ∙ is.1)
gives text (Err x) n is e = absurd (cc)

-- where parsing the digits fails, there is no number
pub parse_fails : {E : Type 0} (text digits : List ℕ) (r : Result ℕ E) → digits ≡ leading_digits text → ParsesUnsigned 64 10 digits r → result_ok r ≡ None → HasNumber text → ⊥
parse_fails text digits r e parses none =
    fails text r (parses_own (leading_digits text) r (leading_are_digits text) (subst (λ (ds : List ℕ). ParsesUnsigned 64 10 ds r) e parses)) none

-- and else it gives it
pub parse_gives : {E : Type 0} (text digits : List ℕ) (r : Result ℕ E) (n : ℕ) → digits ≡ leading_digits text → ParsesUnsigned 64 10 digits r → result_ok r ≡ Some n
    → HasNumber text × (n ≡ digits_value 10 (leading_digits text))
parse_gives text digits r n e parses some =
    gives text r n (parses_own (leading_digits text) r (leading_are_digits text) (subst (λ (ds : List ℕ). ParsesUnsigned 64 10 ds r) e parses)) some
