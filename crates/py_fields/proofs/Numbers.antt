-- The numbers of a version: what the reader takes is what is spelled.
use Rattle.std.proofs.Common.{◌≡◌, ℕ, zero, suc, ◌+◌, ◌*◌, ◌-◌, ◌<◌, ◌≤◌, Bool, true, false, List, [], ◌∷◌, ◌++◌, refl}
use Rattle.std.proofs.Common.{sym, ap, ◌∙◌, arith, ⊎_elim}
use Rattle.std.specs.Prelude.{Some, None, codes, decimal, if◌then◌else◌, ◌&&◌, ◌==◌, is_none, option_and_then}
use Rattle.std.specs.Fmt.{digits}
use Rattle.std.specs.Char.{is_ascii_digit}
use Rattle.std.specs.Int.{is_in_range}
use Rattle.std.proofs.lemmas.Bool.{cases_lt}
use Rattle.std.proofs.lemmas.Bool.Decides.{nat_tests}
use Rattle.std.proofs.lemmas.Option.{same_Some}
use Rattle.std.proofs.lemmas.Fmt.{decimal_digit}
use Rattle.py_fields.specs.Spelling.{IsMajor, IsMinor, IsShort}
use Rattle.py_fields.specs.Fronts.{Front, digit_front, high_minor, low_minor, major_front, minor_front, or_front}
use Rattle.py_fields.specs.Fronts.{short_front, two_digits}

-- a choice that gave something
pub chose : {X : Type 0} (b : Bool) (x y : X) → (if b then Some x else None) ≡ Some y → (b ≡ true) × (x ≡ y)
chose true x y e = (refl, cc)
chose false x y e = absurd (cc)

-- a number of two digits from 10 on
teen : (k : ℕ) → k ≤ 4 → decimal (10 + k) ≡ 49 ∷ (48 + k) ∷ []
unfolding digits
teen zero h = refl
teen (suc zero) h = refl
teen (suc (suc zero)) h = refl
teen (suc (suc (suc zero))) h = refl
teen (suc (suc (suc (suc zero)))) h = refl
teen (suc (suc (suc (suc (suc k))))) h = absurd (omega (arith, h))

decimal_teen : (n : ℕ) → 10 ≤ n → n ≤ 14 → decimal n ≡ 49 ∷ (38 + n) ∷ []
decimal_teen n low high =
    let whole : 10 + (n - 10) ≡ n = omega arith in
    let ones : 48 + (n - 10) ≡ 38 + n = omega arith in
    sym (ap decimal whole) ∙ teen (n - 10) (omega (arith, high)) ∙ ap (λ d. 49 ∷ d ∷ []) ones

-- ---- the major

pub major_read : (text rest : List ℕ) (n : ℕ) → IsMajor text n → major_front (text ++ (codes "." ++ rest)) ≡ Some (n, rest)
major_read text rest n h =
    let digits : text ≡ (48 + n) ∷ [] = h.text_is ∙ decimal_digit n (omega (arith, h.high)) in
    let ok : (is_in_range 50 51 (48 + n) && 46 == 46) ≡ true = grind (arith, nat_tests, h.low, h.high) in
    let value : 48 + n - 48 ≡ n = omega arith in
    rw digits (rw ok (ap (λ k. Some (k, rest)) value))

pub major_spells : (bytes rest : List ℕ) (n : ℕ) → major_front bytes ≡ Some (n, rest) → (text : List ℕ) × IsMajor text n × (bytes ≡ text ++ (codes "." ++ rest))
major_spells [] rest n e = absurd (cc)
major_spells (a ∷ []) rest n e = absurd (cc)
major_spells (a ∷ dot ∷ more) rest n e =
    let got = chose (is_in_range 50 51 a && dot == 46) (a - 48, more) (n, rest) e in
    let value : a - 48 ≡ n = ap (λ (x : ℕ × List ℕ). x.0) got.1 in
    let left : more ≡ rest = ap (λ (x : ℕ × List ℕ). x.1) got.1 in
    let is_dot : dot ≡ 46 = grind (arith, nat_tests, got.0) in
    let low : 50 ≤ a = grind (arith, nat_tests, got.0) in
    let high : a ≤ 51 = grind (arith, nat_tests, got.0) in
    let digit : 48 + n ≡ a = omega (arith, low, value) in
    let text : a ∷ [] ≡ decimal n = sym (decimal_digit n (omega (arith, high, value)) ∙ ap (λ d. d ∷ []) digit) in
    (a ∷ [], record { text_is = text; low = omega (arith, low, value); high = omega (arith, high, value) }, ap (λ d. a ∷ d ∷ more) is_dot ∙ ap (λ r. a ∷ 46 ∷ r) left)

-- ---- the minor

low_read : (text rest : List ℕ) (n : ℕ) → IsMinor text n → n < 10 → minor_front (text ++ (codes "." ++ rest)) ≡ Some (n, rest)
low_read text rest n h lt =
    let digits : text ≡ (48 + n) ∷ [] = h.text_is ∙ decimal_digit n lt in
    let ok : (is_in_range 51 57 (48 + n) && 46 == 46) ≡ true = grind (arith, nat_tests, h.low, lt) in
    let value : 48 + n - 48 ≡ n = omega arith in
    rw digits (rw ok (ap (λ k. Some (k, rest)) value))

high_read : (text rest : List ℕ) (n : ℕ) → IsMinor text n → 10 ≤ n → minor_front (text ++ (codes "." ++ rest)) ≡ Some (n, rest)
high_read text rest n h ge =
    let digits : text ≡ 49 ∷ (38 + n) ∷ [] = h.text_is ∙ decimal_teen n ge h.high in
    let ok : (49 == 49 && is_in_range 48 52 (38 + n) && 46 == 46) ≡ true = grind (arith, nat_tests, h.high, ge) in
    let value : 38 + n - 38 ≡ n = omega arith in
    rw digits (rw ok (ap (λ k. Some (k, rest)) value))

pub minor_read : (text rest : List ℕ) (n : ℕ) → IsMinor text n → minor_front (text ++ (codes "." ++ rest)) ≡ Some (n, rest)
minor_read text rest n h = ⊎_elim (λ lt. low_read text rest n h lt) (λ ge. high_read text rest n h ge) (cases_lt n 10)

low_spells : (a dot : ℕ) (more rest : List ℕ) (n : ℕ) → low_minor a dot more ≡ Some (n, rest) → (text : List ℕ) × IsMinor text n × (a ∷ dot ∷ more ≡ text ++ (codes "." ++ rest))
low_spells a dot more rest n e =
    let got = chose (is_in_range 51 57 a && dot == 46) (a - 48, more) (n, rest) e in
    let value : a - 48 ≡ n = ap (λ (x : ℕ × List ℕ). x.0) got.1 in
    let left : more ≡ rest = ap (λ (x : ℕ × List ℕ). x.1) got.1 in
    let is_dot : dot ≡ 46 = grind (arith, nat_tests, got.0) in
    let low : 51 ≤ a = grind (arith, nat_tests, got.0) in
    let high : a ≤ 57 = grind (arith, nat_tests, got.0) in
    let digit : 48 + n ≡ a = omega (arith, low, value) in
    let text : a ∷ [] ≡ decimal n = sym (decimal_digit n (omega (arith, high, value)) ∙ ap (λ d. d ∷ []) digit) in
    (a ∷ [], record { text_is = text; low = omega (arith, low, value); high = omega (arith, high, value) }, ap (λ d. a ∷ d ∷ more) is_dot ∙ ap (λ r. a ∷ 46 ∷ r) left)

high_spells : (a b : ℕ) (more rest : List ℕ) (n : ℕ) → high_minor a b more ≡ Some (n, rest) → (text : List ℕ) × IsMinor text n × (a ∷ b ∷ more ≡ text ++ (codes "." ++ rest))
high_spells a b [] rest n e = absurd (cc)
high_spells a b (dot ∷ more) rest n e =
    let got = chose (a == 49 && is_in_range 48 52 b && dot == 46) (b - 38, more) (n, rest) e in
    let value : b - 38 ≡ n = ap (λ (x : ℕ × List ℕ). x.0) got.1 in
    let left : more ≡ rest = ap (λ (x : ℕ × List ℕ). x.1) got.1 in
    let is_one : a ≡ 49 = grind (arith, nat_tests, got.0) in
    let is_dot : dot ≡ 46 = grind (arith, nat_tests, got.0) in
    let low : 48 ≤ b = grind (arith, nat_tests, got.0) in
    let high : b ≤ 52 = grind (arith, nat_tests, got.0) in
    let digit : 38 + n ≡ b = omega (arith, low, value) in
    let text : a ∷ b ∷ [] ≡ decimal n = sym (decimal_teen n (omega (arith, low, value)) (omega (arith, high, value)) ∙ ap (λ d. 49 ∷ d ∷ []) digit ∙ ap (λ d. d ∷ b ∷ []) (sym is_one)) in
    (a ∷ b ∷ [], record { text_is = text; low = omega (arith, low, value); high = omega (arith, high, value) }, ap (λ d. a ∷ b ∷ d ∷ more) is_dot ∙ ap (λ r. a ∷ b ∷ 46 ∷ r) left)

pub minor_spells : (bytes rest : List ℕ) (n : ℕ) → minor_front bytes ≡ Some (n, rest) → (text : List ℕ) × IsMinor text n × (bytes ≡ text ++ (codes "." ++ rest))
minor_spells [] rest n e = absurd (cc)
minor_spells (a ∷ []) rest n e = absurd (cc)
minor_spells (a ∷ b ∷ more) rest n e = either (low_minor a b more) refl e
  where
    either : (low : Front) → low_minor a b more ≡ low → or_front low (high_minor a b more) ≡ Some (n, rest) → (text : List ℕ) × IsMinor text n × (a ∷ b ∷ more ≡ text ++ (codes "." ++ rest))
    either (Some x) is found = low_spells a b more rest n (is ∙ found)
    either None is found = high_spells a b more rest n found

-- ---- one or two digits

digit_read : (a : ℕ) (rest : List ℕ) → is_ascii_digit a ≡ true → digit_front (a ∷ rest) ≡ Some (a - 48, rest)
digit_read a rest is = rw is refl

pub short_read : (text rest : List ℕ) (n : ℕ) → IsShort text n → digit_front rest ≡ None → short_front (text ++ rest) ≡ Some (n, rest)
short_read [] rest n h ends = absurd h
short_read (ones ∷ []) rest n (is, value) ends = rw (is, ends) (ap (λ k. Some (k, rest)) (sym value))
short_read (tens ∷ ones ∷ []) rest n (is, last, value) ends = rw (is, last, ends) (ap (λ k. Some (k, rest)) (sym value))
short_read (a ∷ b ∷ c ∷ more) rest n h ends = absurd h

digit_spells : (bytes rest : List ℕ) (n : ℕ) → digit_front bytes ≡ Some (n, rest) → (a : ℕ) × (is_ascii_digit a ≡ true) × (n ≡ a - 48) × (bytes ≡ a ∷ rest)
digit_spells [] rest n e = absurd (cc)
digit_spells (a ∷ more) rest n e =
    let got = chose (is_ascii_digit a) (a - 48, more) (n, rest) e in
    (a, got.0, sym (ap (λ (x : ℕ × List ℕ). x.0) got.1), ap (λ (x : ℕ × List ℕ). a ∷ x.1) got.1)

pub short_spells : (bytes rest : List ℕ) (n : ℕ) → short_front bytes ≡ Some (n, rest) → (text : List ℕ) × IsShort text n × (bytes ≡ text ++ rest)
short_spells bytes rest n e = first (digit_front bytes) refl e
  where
    IsAnswer : Type 0
    IsAnswer = (text : List ℕ) × IsShort text n × (bytes ≡ text ++ rest)

    second : (tens : ℕ) (more : List ℕ) (ones : Front) → digit_front bytes ≡ Some (tens, more) → digit_front more ≡ ones → two_digits tens more ones ≡ Some (n, rest) → IsAnswer
    second tens more None one none found =
        let a = digit_spells bytes more tens one in
        let same = same_Some (tens, more) (n, rest) found in
        let value : tens ≡ n = ap (λ (x : ℕ × List ℕ). x.0) same in
        let left : more ≡ rest = ap (λ (x : ℕ × List ℕ). x.1) same in
        (a.0 ∷ [], (a.1, sym value ∙ a.2), a.3 ∙ ap (λ r. a.0 ∷ r) left)
    second tens more (Some ones) one two found =
        let a = digit_spells bytes more tens one in
        let b = digit_spells more ones.1 ones.0 two in
        let got = chose (is_none (digit_front ones.1)) (tens * 10 + ones.0, ones.1) (n, rest) found in
        let value : tens * 10 + ones.0 ≡ n = ap (λ (x : ℕ × List ℕ). x.0) got.1 in
        let left : ones.1 ≡ rest = ap (λ (x : ℕ × List ℕ). x.1) got.1 in
        (a.0 ∷ b.0 ∷ [], (a.1, b.1, sym value ∙ ap (λ t. t * 10 + ones.0) a.2 ∙ ap (λ o. (a.0 - 48) * 10 + o) b.2), a.3 ∙ ap (λ r. a.0 ∷ r) b.3 ∙ ap (λ r. a.0 ∷ b.0 ∷ r) left)

    first : (front : Front) → digit_front bytes ≡ front → short_front bytes ≡ Some (n, rest) → IsAnswer
    first None is found = absurd (cc)
    first (Some x) is found = second x.0 x.1 (digit_front x.1) is refl (sym (ap after is) ∙ found)
      where
        after : Front → Front
        after front = option_and_then (λ (x : ℕ × List ℕ). two_digits x.0 x.1 (digit_front x.1)) front
