-- The number that digits write, one digit after another.
use Rattle.std.proofs.Common.{◌≡◌, ℕ, ◌+◌, ◌-◌, ◌*◌, ◌^◌, ◌<◌, ◌≤◌, Bool, true, false, List, length, get_or, take, refl}
use Rattle.std.proofs.Common.{sym, ap, ◌∙◌, arith}
use Rattle.std.specs.Prelude.{Some, None, nat_lt, ◌&&◌}
use Rattle.std.specs.Char.{digit_value, is_ascii_digit}
use Rattle.std.specs.List.{list_all}
use Rattle.std.specs.Str.Parse.{digits_value}
use Rattle.std.proofs.lemmas.Bool.{cond-false, cond-true}
use Rattle.std.proofs.lemmas.Bool.Decides.{nat_tests}
use Rattle.std.proofs.lemmas.Int.Digits.{digits_value_more}
use Rattle.std.proofs.lemmas.List.{take_all}
use Rattle.std.proofs.lemmas.List.Folds.{list_all_more}
use Rattle.std.proofs.lemmas.Str.Parse.{digits_value-take-le}
use Rattle.py_process.specs.FileVersions.{decimal_of}

digit_is : (c : ℕ) → is_ascii_digit c ≡ true → digit_value c ≡ c - 48
digit_is c is = grind (arith, nat_tests)

pub digit_more : (ds : List ℕ) (i : ℕ) → i < length ds → is_ascii_digit (get_or ds i 0) ≡ true
    → digits_value 10 (take (i + 1) ds) ≡ digits_value 10 (take i ds) * 10 + (get_or ds i 0 - 48)
digit_more ds i lt is = digits_value_more 10 ds i lt ∙ ap (λ d. digits_value 10 (take i ds) * 10 + d) (digit_is (get_or ds i 0) is)

pub all_more : (ds : List ℕ) (i : ℕ) → i < length ds → list_all is_ascii_digit (take i ds) ≡ true → is_ascii_digit (get_or ds i 0) ≡ true
    → list_all is_ascii_digit (take (i + 1) ds) ≡ true
all_more ds i lt all is = list_all_more is_ascii_digit ds i 0 lt ∙ ap (λ b. b && is_ascii_digit (get_or ds i 0)) all ∙ is

last_false : (a b c : Bool) → c ≡ false → (a && (b && c)) ≡ false
last_false true true c e = e
last_false true false c e = refl
last_false false b c e = refl

all_true : (a b c : Bool) → a ≡ true → b ≡ true → c ≡ true → (a && (b && c)) ≡ true
all_true a b c p q r = ap (λ x. x && (b && c)) p ∙ ap (λ x. x && c) q ∙ r

-- digits of a number that is too large
pub too_large : (ds : List ℕ) (i : ℕ) → 2 ^ 64 ≤ digits_value 10 (take (i + 1) ds) → decimal_of ds ≡ None
too_large ds i le =
    let more : digits_value 10 (take (i + 1) ds) ≤ digits_value 10 ds = digits_value-take-le 10 ds (i + 1) (omega arith) in
    let large : 2 ^ 64 ≤ digits_value 10 ds = omega arith in
    let no : nat_lt (digits_value 10 ds) (2 ^ 64) ≡ false = grind (arith, nat_tests, large) in
    cond-false _ _ _ (last_false (nat_lt 0 (length ds)) (list_all is_ascii_digit ds) (nat_lt (digits_value 10 ds) (2 ^ 64)) no)

pub is_decimal : (ds : List ℕ) (i n : ℕ) → length ds ≤ i → 0 < length ds → n ≡ digits_value 10 (take i ds) → list_all is_ascii_digit (take i ds) ≡ true → n < 2 ^ 64
    → Some n ≡ decimal_of ds
is_decimal ds i n le some is all lt =
    let whole : take i ds ≡ ds = take_all i ds le in
    let value : n ≡ digits_value 10 ds = is ∙ ap (digits_value 10) whole in
    let one : nat_lt 0 (length ds) ≡ true = grind (arith, nat_tests, some) in
    let three : nat_lt (digits_value 10 ds) (2 ^ 64) ≡ true = grind (arith, nat_tests, lt, value) in
    let two : list_all is_ascii_digit ds ≡ true = sym (ap (list_all is_ascii_digit) whole) ∙ all in
    ap (λ x. Some x) value ∙ sym (cond-true _ _ _ (all_true (nat_lt 0 (length ds)) (list_all is_ascii_digit ds) (nat_lt (digits_value 10 ds) (2 ^ 64)) one two three))
