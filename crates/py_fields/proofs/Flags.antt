-- The flags of a version: what the reader takes is what is spelled.
use Rattle.std.proofs.Common.{◌≡◌, ℕ, ◌+◌, ◌-◌, ◌<◌, ◌≤◌, Bool, true, false, List, [], ◌∷◌, ◌++◌, length, take, drop}
use Rattle.std.proofs.Common.{refl, sym, ap, ◌∙◌, arith, inl, inr, ⊎_elim, append_assoc, length-append}
use Rattle.std.specs.Prelude.{Some, None, ◌&&◌, ◌==◌}
use Rattle.std.specs.Int.{is_in_range}
use Rattle.std.proofs.lemmas.Bool.{cases_lt}
use Rattle.std.proofs.lemmas.Bool.Decides.{nat_tests}
use Rattle.std.proofs.Math.Seq.{take-append_seam, drop-append_seam}
use Rattle.py_fields.specs.Spelling.{AreFlags, IsLevel, IsPreRelease, IsShort}
use Rattle.py_fields.specs.Fronts.{Front, digit_front, flags_len, level_len, short_front}
use Rattle.py_fields.proofs.Numbers.{short_read, short_spells}

-- ---- letters

-- behind the letters stands a digit, so their number is read
level_read : (level rest : List ℕ) (d : ℕ) → IsLevel level → level_len (level ++ d ∷ rest) ≡ length level
level_read level rest d is =
    ⊎_elim (λ e. rw e refl) (λ more. ⊎_elim (λ e. rw e refl) (λ last. ⊎_elim (λ e. rw e refl) (λ e. rw e refl) last) more) is

some_level : (level : List ℕ) → IsLevel level → 0 < length level
some_level level is =
    ⊎_elim (λ e. rw e (omega arith)) (λ more. ⊎_elim (λ e. rw e (omega arith)) (λ last. ⊎_elim (λ e. rw e (omega arith)) (λ e. rw e (omega arith)) last) more) is

-- the reader of flags where there are letters
read_behind : (bytes rest : List ℕ) (n v : ℕ) → level_len bytes ≡ n → 0 < n → short_front (drop n bytes) ≡ Some (v, rest) → flags_len bytes ≡ length bytes - length rest
read_behind bytes rest n v len some found =
    let none : (n == 0) ≡ false = grind (arith, nat_tests, some) in
    rw len (rw none (rw found refl))

pub flags_read : (flags rest : List ℕ) → AreFlags flags → digit_front rest ≡ None → level_len rest ≡ 0 → flags_len (flags ++ rest) ≡ length flags
flags_read flags rest are no_digit no_level = ⊎_elim none some are
  where
    none : flags ≡ [] → flags_len (flags ++ rest) ≡ length flags
    none e = rw e (rw no_level refl)

    with_number : (level number : List ℕ) (v : ℕ) → IsLevel level → IsShort number v → flags_len (level ++ (number ++ rest)) ≡ length (level ++ number)
    with_number level [] v is short = absurd short
    with_number level (d ∷ ds) v is short =
        let len = level_read level (ds ++ rest) d is in
        let found : short_front (drop (length level) (level ++ (d ∷ ds ++ rest))) ≡ Some (v, rest) = ap short_front (drop-append_seam level (d ∷ ds ++ rest)) ∙ short_read (d ∷ ds) rest v short no_digit in
        let all = read_behind (level ++ (d ∷ ds ++ rest)) rest (length level) v len (some_level level is) found in
        all ∙ omega (arith, length-append level (d ∷ ds ++ rest), length-append (d ∷ ds) rest, length-append level (d ∷ ds))

    some : IsPreRelease flags → flags_len (flags ++ rest) ≡ length flags
    some p = rw p.parts (ap flags_len (append_assoc p.level p.number rest) ∙ with_number p.level p.number p.value p.is_level p.is_number)

-- ---- what stands there

one_letter : (a : ℕ) → is_in_range 97 99 a ≡ true → IsLevel (a ∷ [])
one_letter a is =
    let low : 97 ≤ a = grind (arith, nat_tests, is) in
    let high : a ≤ 99 = grind (arith, nat_tests, is) in
    let one : (n : ℕ) → a ≡ n → a ∷ [] ≡ n ∷ [] = λ n e. ap (λ c. c ∷ []) e in
    ⊎_elim (λ lt. inl (one 97 (omega (arith, low, lt))))
    (λ ge. ⊎_elim (λ lt. inr (inl (one 98 (omega (arith, ge, lt))))) (λ ge2. inr (inr (inl (one 99 (omega (arith, high, ge2)))))) (cases_lt a 99)) (cases_lt a 98)

-- the letters that some bytes begin with
record HasLevel (bytes : List ℕ) : Type 0 where
  pub level : List ℕ
  pub is_level : IsLevel level
  pub parts : bytes ≡ level ++ drop (level_len bytes) bytes
  pub len : length level ≡ level_len bytes

one_byte : (a : ℕ) (rest : List ℕ) → is_in_range 97 99 a ≡ true → level_len (a ∷ rest) ≡ 1 → HasLevel (a ∷ rest)
one_byte a rest is len = record { level = a ∷ []; is_level = one_letter a is; parts = rw len refl; len = sym len }

two_bytes : (a b : ℕ) (rest : List ℕ) → (a == 114 && b == 99) ≡ true → level_len (a ∷ b ∷ rest) ≡ 2 → HasLevel (a ∷ b ∷ rest)
two_bytes a b rest is len =
    let first : a ≡ 114 = grind (arith, nat_tests, is) in
    let second : b ≡ 99 = grind (arith, nat_tests, is) in
    record { level = a ∷ b ∷ []; is_level = inr (inr (inr (ap (λ c. c ∷ b ∷ []) first ∙ ap (λ c. 114 ∷ c ∷ []) second))); parts = rw len refl; len = sym len }

level_spells : (bytes : List ℕ) → 0 < level_len bytes → HasLevel bytes
level_spells [] some = absurd (omega (arith, some))
level_spells (a ∷ []) some = by (is_in_range 97 99 a) refl
  where
    by : (b : Bool) → is_in_range 97 99 a ≡ b → HasLevel (a ∷ [])
    by true is = one_byte a [] is (rw is refl)
    by false is = absurd (omega (arith, rw is at some))
level_spells (a ∷ b ∷ rest) some = by (is_in_range 97 99 a) refl
  where
    by_two : (c : Bool) → is_in_range 97 99 a ≡ false → (a == 114 && b == 99) ≡ c → HasLevel (a ∷ b ∷ rest)
    by_two true none is = two_bytes a b rest is (rw (none, is) refl)
    by_two false none is = absurd (omega (arith, rw (none, is) at some))

    by : (c : Bool) → is_in_range 97 99 a ≡ c → HasLevel (a ∷ b ∷ rest)
    by true is = one_byte a (b ∷ rest) is (rw is refl)
    by false is = by_two (a == 114 && b == 99) is refl

-- letters and a number are flags
whole_flags : (bytes rest : List ℕ) (v : ℕ) → 0 < level_len bytes → short_front (drop (level_len bytes) bytes) ≡ Some (v, rest) → AreFlags (take (flags_len bytes) bytes)
whole_flags bytes rest v some found =
    let h = level_spells bytes some in
    let number = short_spells (drop (level_len bytes) bytes) rest v found in
    let parts : bytes ≡ (h.level ++ number.0) ++ rest = h.parts ∙ ap (λ r. h.level ++ r) number.2 ∙ sym (append_assoc h.level number.0 rest) in
    let len : length bytes ≡ length (h.level ++ number.0) + length rest = ap length parts ∙ length-append (h.level ++ number.0) rest in
    let taken : flags_len bytes ≡ length (h.level ++ number.0) = read_behind bytes rest (level_len bytes) v refl some found ∙ omega (arith, len) in
    let text : take (flags_len bytes) bytes ≡ h.level ++ number.0 = ap (λ n. take n bytes) taken ∙ ap (take (length (h.level ++ number.0))) parts ∙ take-append_seam (h.level ++ number.0) rest in
    inr (record { level = h.level; is_level = h.is_level; number = number.0; value = v; is_number = number.1; parts = text })

no_flags : (bytes : List ℕ) → flags_len bytes ≡ 0 → AreFlags (take (flags_len bytes) bytes)
no_flags bytes none = inl (ap (λ n. take n bytes) none)

pub flags_spell : (bytes : List ℕ) → AreFlags (take (flags_len bytes) bytes)
flags_spell bytes = ⊎_elim without (λ some. with some (short_front (drop (level_len bytes) bytes)) refl) (cases_lt (level_len bytes) 1)
  where
    without : level_len bytes < 1 → AreFlags (take (flags_len bytes) bytes)
    without lt =
        let none : (level_len bytes == 0) ≡ true = grind (arith, nat_tests, lt) in
        no_flags bytes (rw none refl)

    with : 1 ≤ level_len bytes → (front : Front) → short_front (drop (level_len bytes) bytes) ≡ front → AreFlags (take (flags_len bytes) bytes)
    with some None is =
        let none : (level_len bytes == 0) ≡ false = grind (arith, nat_tests, some) in
        no_flags bytes (rw (none, is) refl)
    with some (Some x) is = whole_flags bytes x.1 x.0 (omega (arith, some)) is
