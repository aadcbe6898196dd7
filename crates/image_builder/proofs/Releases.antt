-- The flags of a version, and the byte that they have in its number.
use Rattle.std.proofs.Common.{◌≡◌, ◌∙◌, ◌+◌, ◌-◌, ◌*◌, ◌<◌, ◌≤◌, ℕ, zero, suc, Bool, true, false, List, [], ◌∷◌, ◌++◌}
use Rattle.std.proofs.Common.{refl, sym, ap, inl, inr, arith}
use Rattle.std.specs.Prelude.{Option, Some, None, MatchOption, IsTrue, ◌↔◌, codes, if◌then◌else◌, ◌&&◌, ◌==◌}
use Rattle.std.specs.Prelude.{option_map, encode_utf8_all, replicate, ◌⊎◌}
use Rattle.std.specs.Char.{is_ascii_digit}
use Rattle.std.specs.Option.{is_some}
use Rattle.std.specs.Fmt.{decimal, digits}
use Rattle.std.specs.Int.{is_in_range}
use Rattle.std.specs.Str.{IsAscii}
use Rattle.std.proofs.lemmas.Bool.{and_parts}
use Rattle.std.proofs.lemmas.Bool.Decides.{Decides-eqb, nat_tests}
use Rattle.std.proofs.lemmas.Fmt.{decimal_digit, IsAscii-decimal}
use Rattle.std.proofs.lemmas.Option.{same_Some}
use Rattle.std.proofs.lemmas.Str.{encodes_same, encodes-IsAscii, IsAscii-append}
use Rattle.std.proofs.lemmas.Str.Ascii.{IsAscii-cons, IsAscii-nil}
use Rattle.image_builder.specs.Covered.{HasReleaseByte, IsPreFinal, IsReleaseByte, byte_behind, candidate_byte}
use Rattle.image_builder.specs.Covered.{plain_digits, plain_flags, release_byte, serial_of, short_serial}

-- ---- serial numbers

-- how a serial number is written: by a first digit and others, which have no zeros in front
abbrev Written : ℕ → Type 0
Written n = (d : ℕ) × (ds : List ℕ) × (decimal n ≡ d ∷ ds) × (is_ascii_digit d ≡ true) × (plain_digits (d ∷ ds) ≡ d ∷ ds)
    × (short_serial (d ∷ ds) ≡ Some n)

written : (n : ℕ) → n < 16 → Written n
unfolding digits
written zero h = (48, [], refl, refl, refl, refl)
written (suc zero) h = (49, [], refl, refl, refl, refl)
written (suc (suc zero)) h = (50, [], refl, refl, refl, refl)
written (suc (suc (suc zero))) h = (51, [], refl, refl, refl, refl)
written (suc (suc (suc (suc zero)))) h = (52, [], refl, refl, refl, refl)
written (suc (suc (suc (suc (suc zero))))) h = (53, [], refl, refl, refl, refl)
written (suc (suc (suc (suc (suc (suc zero)))))) h = (54, [], refl, refl, refl, refl)
written (suc (suc (suc (suc (suc (suc (suc zero))))))) h = (55, [], refl, refl, refl, refl)
written (suc (suc (suc (suc (suc (suc (suc (suc zero)))))))) h = (56, [], refl, refl, refl, refl)
written (suc (suc (suc (suc (suc (suc (suc (suc (suc zero))))))))) h = (57, [], refl, refl, refl, refl)
written (suc (suc (suc (suc (suc (suc (suc (suc (suc (suc zero)))))))))) h = (49, (48 ∷ []), refl, refl, refl, refl)
written (suc (suc (suc (suc (suc (suc (suc (suc (suc (suc (suc zero))))))))))) h = (49, (49 ∷ []), refl, refl, refl, refl)
written (suc (suc (suc (suc (suc (suc (suc (suc (suc (suc (suc (suc zero)))))))))))) h = (49, (50 ∷ []), refl, refl, refl, refl)
written (suc (suc (suc (suc (suc (suc (suc (suc (suc (suc (suc (suc (suc zero))))))))))))) h = (49, (51 ∷ []), refl, refl, refl, refl)
written (suc (suc (suc (suc (suc (suc (suc (suc (suc (suc (suc (suc (suc (suc zero)))))))))))))) h = (49, (52 ∷ []), refl, refl, refl, refl)
written (suc (suc (suc (suc (suc (suc (suc (suc (suc (suc (suc (suc (suc (suc (suc zero))))))))))))))) h = (49, (53 ∷ []), refl, refl, refl, refl)
written (suc (suc (suc (suc (suc (suc (suc (suc (suc (suc (suc (suc (suc (suc (suc (suc k)))))))))))))))) h =
    absurd (omega (arith, h))

-- zeros in front are dropped
zeros_dropped : (k d : ℕ) (ds : List ℕ) → plain_digits (replicate k 48 ++ (d ∷ ds)) ≡ plain_digits (d ∷ ds)
zeros_dropped zero d ds = refl
zeros_dropped (suc zero) d ds = refl
zeros_dropped (suc (suc k)) d ds = zeros_dropped (suc k) d ds

pub plain_serial : (k n : ℕ) → n < 16 → plain_digits (replicate k 48 ++ decimal n) ≡ decimal n
plain_serial k n small =
    let (d, ds, is, digit, plain, serial) = written n small in
    ap (λ xs. plain_digits (replicate k 48 ++ xs)) is ∙ zeros_dropped k d ds ∙ plain ∙ sym is

serial_small : (k n : ℕ) → n < 16 → serial_of (replicate k 48 ++ decimal n) ≡ Some n
serial_small k n small =
    let (d, ds, is, digit, plain, serial) = written n small in
    ap short_serial (plain_serial k n small ∙ is) ∙ serial

-- where flags come to a digit the zeros in front are dropped
at_digit : (c : ℕ) (rest : List ℕ) → is_ascii_digit c ≡ true → plain_flags (c ∷ rest) ≡ plain_digits (c ∷ rest)
at_digit c rest is = ap (λ b. if b then plain_digits (c ∷ rest) else (c ∷ plain_flags rest)) is

pub plain_number : (k n : ℕ) → n < 16 → plain_flags (replicate k 48 ++ decimal n) ≡ decimal n
plain_number zero n small =
    let (d, ds, is, digit, plain, serial) = written n small in
    ap plain_flags is ∙ at_digit d ds digit ∙ plain ∙ sym is
plain_number (suc k) n small = at_digit 48 (replicate k 48 ++ decimal n) refl ∙ plain_serial (suc k) n small

-- digits are zeros and what is left without them
zeros_split : (ds : List ℕ) → (k : ℕ) × (ds ≡ replicate k 48 ++ plain_digits ds)
zeros_split [] = (0, refl)
zeros_split (d ∷ []) = (0, refl)
zeros_split (d ∷ e ∷ rest) = by_test (d == 48) refl (zeros_split (e ∷ rest))
  where
    by_test : (b : Bool) → (d == 48) ≡ b → (k : ℕ) × (e ∷ rest ≡ replicate k 48 ++ plain_digits (e ∷ rest))
        → (k : ℕ) × (d ∷ e ∷ rest ≡ replicate k 48 ++ (if b then plain_digits (e ∷ rest) else (d ∷ e ∷ rest)))
    by_test true is (k, split) = (suc k, ap (λ x. x ∷ e ∷ rest) ((Decides-eqb d 48).0 is) ∙ ap (λ xs. 48 ∷ xs) split)
    by_test false is more = (0, refl)

teen : (k : ℕ) → k ≤ 5 → decimal (10 + k) ≡ 49 ∷ (48 + k) ∷ []
unfolding digits
teen zero h = refl
teen (suc zero) h = refl
teen (suc (suc zero)) h = refl
teen (suc (suc (suc zero))) h = refl
teen (suc (suc (suc (suc zero)))) h = refl
teen (suc (suc (suc (suc (suc zero))))) h = refl
teen (suc (suc (suc (suc (suc (suc k)))))) h = absurd (omega (arith, h))

decimal_teen : (n : ℕ) → 10 ≤ n → n ≤ 15 → decimal n ≡ 49 ∷ (38 + n) ∷ []
decimal_teen n low high =
    let whole : 10 + (n - 10) ≡ n = omega arith in
    let ones : 48 + (n - 10) ≡ 38 + n = omega arith in
    sym (ap decimal whole) ∙ teen (n - 10) (omega (arith, high)) ∙ ap (λ d. 49 ∷ d ∷ []) ones

-- a choice that gave something
chose : {X : Type 0} (b : Bool) (x y : X) → (if b then Some x else None) ≡ Some y → (b ≡ true) × (x ≡ y)
chose true x y e = (refl, same_Some x y e)
chose false x y e = absurd (cc)

one_digit : (ones n : ℕ) → is_in_range 48 57 ones ≡ true → ones - 48 ≡ n → (n < 16) × (ones ∷ [] ≡ decimal n)
one_digit ones n is value =
    let low : 48 ≤ ones = grind (arith, nat_tests, is) in
    let high : ones ≤ 57 = grind (arith, nat_tests, is) in
    let same : ones ≡ 48 + n = omega arith in
    (omega arith, ap (λ d. d ∷ []) same ∙ sym (decimal_digit n (omega arith)))

two_digit : (tens ones n : ℕ) → (tens == 49 && is_in_range 48 53 ones) ≡ true → ones - 38 ≡ n
    → (n < 16) × (tens ∷ ones ∷ [] ≡ decimal n)
two_digit tens ones n is value =
    let p = and_parts (tens == 49) (is_in_range 48 53 ones) is in
    let first : tens ≡ 49 = (Decides-eqb tens 49).0 p.0 in
    let low : 48 ≤ ones = grind (arith, nat_tests, p.1) in
    let high : ones ≤ 53 = grind (arith, nat_tests, p.1) in
    let same : ones ≡ 38 + n = omega arith in (
      omega arith,
      ap (λ t. t ∷ ones ∷ []) first ∙ ap (λ d. 49 ∷ d ∷ []) same
          ∙ sym (decimal_teen n (omega arith) (omega arith)),
    )

short_back : (ds : List ℕ) (n : ℕ) → short_serial ds ≡ Some n → (n < 16) × (ds ≡ decimal n)
short_back [] n e = absurd (cc)
short_back (ones ∷ []) n e = let p = chose (is_in_range 48 57 ones) (ones - 48) n e in one_digit ones n p.0 p.1
short_back (tens ∷ ones ∷ []) n e = let p = chose (tens == 49 && is_in_range 48 53 ones) (ones - 38) n e in
    two_digit tens ones n p.0 p.1
short_back (a ∷ b ∷ c ∷ rest) n e = absurd (cc)

serial_back : (ds : List ℕ) (n : ℕ) → serial_of ds ≡ Some n → (n < 16) × (k : ℕ) × (ds ≡ replicate k 48 ++ decimal n)
serial_back ds n e =
    let (small, is) = short_back (plain_digits ds) n e in
    let (k, split) = zeros_split ds in
    (small, k, split ∙ ap (λ xs. replicate k 48 ++ xs) is)

-- ---- letters and a serial number

behind_back : (level : ℕ) (ds : List ℕ) (byte : ℕ) (o : Option ℕ) → serial_of ds ≡ o
    → option_map (λ serial. 16 * level + serial) o ≡ Some byte
    → (letters flags : List ℕ) → flags ≡ letters ++ ds → IsPreFinal letters level flags byte
behind_back level ds byte None is e letters flags are = absurd (cc)
behind_back level ds byte (Some n) is e letters flags are =
    let p = serial_back ds n is in
    record {
      serial = n;
      small = p.0;
      zeros = p.1;
      flags_are = are ∙ ap (λ xs. letters ++ xs) p.2;
      byte_is =
          sym (same_Some (16 * level + n) byte e);
    }

-- which of two a test chose
test_chose : (b : Bool) (x y : Option ℕ) (o : Option ℕ) → (if b then x else y) ≡ o
    → ((b ≡ true) × (x ≡ o)) ⊎ ((b ≡ false) × (y ≡ o))
test_chose true x y o e = inl (refl, e)
test_chose false x y o e = inr (refl, e)

pub found_is : (flags : List ℕ) (byte : ℕ) → release_byte flags ≡ Some byte → IsReleaseByte flags byte
found_is [] byte e = inl (refl, sym (same_Some 0xF0 byte e))
found_is (c ∷ rest) byte e =
    elim (test_chose (c == 97) (byte_behind 10 rest) (if c == 98 then byte_behind 11 rest else
    (if c == 114 then candidate_byte rest else None)) (Some byte) e) [
      | inl a ↦ inr (inl (behind_back 10 rest byte (serial_of rest) refl a.1 (codes "a") (c
          ∷ rest) (ap (λ x. x ∷ rest) ((Decides-eqb c 97).0 a.0))))
      | inr more ↦ elim (test_chose (c == 98) (byte_behind 11 rest) (if c == 114 then candidate_byte rest else None)
          (Some byte) more.1) [
            | inl b ↦ inr (inr (inl (behind_back 11 rest byte (serial_of rest) refl b.1 (codes "b") (c
                ∷ rest) (ap (λ x. x ∷ rest) ((Decides-eqb c 98).0 b.0)))))
            | inr last ↦ elim (test_chose (c == 114) (candidate_byte rest) None (Some byte) last.1) [
              | inl r ↦ inr (inr (inr (candidate c rest byte ((Decides-eqb c 114).0 r.0) r.1)))
              | inr none ↦ (let clash : None ≡ Some byte = none.1 in cc)
            ]
          ]
    ]
  where
    candidate : (c : ℕ) (rest : List ℕ) (byte : ℕ) → c ≡ 114 → candidate_byte rest ≡ Some byte
        → IsPreFinal (codes "rc") 12 (c ∷ rest) byte
    candidate c [] byte is e = absurd (cc)
    candidate c (d ∷ ds) byte is e =
        elim (test_chose (d == 99) (byte_behind 12 ds) None (Some byte) e) [
          | inl t ↦ behind_back 12 ds byte (serial_of ds) refl t.1 (codes "rc") (c ∷ d ∷ ds) (ap (λ x. x ∷ d ∷ ds) is
              ∙ ap (λ x. 114 ∷ x ∷ ds) ((Decides-eqb d 99).0 t.0))
          | inr none ↦ (let clash : None ≡ Some byte = none.1 in cc)
        ]

-- what is written so is found
behind_found : (level serial zeros byte : ℕ) → serial < 16 → byte ≡ 16 * level + serial
    → byte_behind level (replicate zeros 48 ++ decimal serial) ≡ Some byte
behind_found level serial zeros byte small is =
    ap (option_map (λ n. 16 * level + n)) (serial_small zeros serial small) ∙ ap (λ n. Some n) (sym is)

pub is_found : (flags : List ℕ) (byte : ℕ) → IsReleaseByte flags byte → release_byte flags ≡ Some byte
is_found flags byte (inl final) = ap release_byte final.0 ∙ ap (λ n. Some n) (sym final.1)
is_found flags byte (inr (inl h)) = ap release_byte h.flags_are ∙ behind_found 10 h.serial h.zeros byte h.small h.byte_is
is_found flags byte (inr (inr (inl h))) = ap release_byte h.flags_are ∙ behind_found 11 h.serial h.zeros byte h.small h.byte_is
is_found flags byte (inr (inr (inr h))) = ap release_byte h.flags_are ∙ behind_found 12 h.serial h.zeros byte h.small h.byte_is

-- ---- characters and bytes

same_ascii : (flags bytes xs : List ℕ) → bytes ≡ encode_utf8_all flags → IsAscii xs → bytes ≡ xs → flags ≡ xs
same_ascii flags bytes xs is ascii e = encodes_same flags xs (sym is ∙ e ∙ sym (encodes-IsAscii xs ascii))

ascii_same : (flags bytes xs : List ℕ) → bytes ≡ encode_utf8_all flags → IsAscii xs → flags ≡ xs → bytes ≡ xs
ascii_same flags bytes xs is ascii e = is ∙ ap encode_utf8_all e ∙ encodes-IsAscii xs ascii

zeros_ascii : (k : ℕ) → IsAscii (replicate k 48)
zeros_ascii zero = IsAscii-nil
zeros_ascii (suc k) = IsAscii-cons 48 (replicate k 48) (omega arith) (zeros_ascii k)

behind_ascii : (letters : List ℕ) (zeros serial : ℕ) → IsAscii letters → serial < 16
    → IsAscii (letters ++ (replicate zeros 48 ++ decimal serial))
behind_ascii letters zeros serial ascii small = IsAscii-append letters (replicate zeros 48 ++ decimal serial) ascii
    (IsAscii-append (replicate zeros 48) (decimal serial) (zeros_ascii zeros) (IsAscii-decimal serial (omega (arith, small))))

a_ascii : IsAscii (codes "a")
a_ascii = IsAscii-cons 97 [] (omega arith) IsAscii-nil

b_ascii : IsAscii (codes "b")
b_ascii = IsAscii-cons 98 [] (omega arith) IsAscii-nil

rc_ascii : IsAscii (codes "rc")
rc_ascii = IsAscii-cons 114 (99 ∷ []) (omega arith) (IsAscii-cons 99 [] (omega arith) IsAscii-nil)

final_there : (letters : List ℕ) (level : ℕ) (flags bytes : List ℕ) (byte : ℕ) → IsAscii letters
    → bytes ≡ encode_utf8_all flags → IsPreFinal letters level bytes byte → IsPreFinal letters level flags byte
final_there letters level flags bytes byte ascii is h = record {
  serial = h.serial;
  small = h.small;
  zeros = h.zeros;
  flags_are = same_ascii flags bytes (letters ++ (replicate h.zeros 48 ++ decimal h.serial)) is
      (behind_ascii letters h.zeros h.serial ascii h.small) h.flags_are;
  byte_is = h.byte_is;
}

final_here : (letters : List ℕ) (level : ℕ) (flags bytes : List ℕ) (byte : ℕ) → IsAscii letters
    → bytes ≡ encode_utf8_all flags → IsPreFinal letters level flags byte → IsPreFinal letters level bytes byte
final_here letters level flags bytes byte ascii is h = record {
  serial = h.serial;
  small = h.small;
  zeros = h.zeros;
  flags_are = ascii_same flags bytes (letters ++ (replicate h.zeros 48 ++ decimal h.serial)) is
      (behind_ascii letters h.zeros h.serial ascii h.small) h.flags_are;
  byte_is = h.byte_is;
}

chars_there : (flags bytes : List ℕ) (byte : ℕ) → bytes ≡ encode_utf8_all flags → IsReleaseByte bytes byte
    → IsReleaseByte flags byte
chars_there flags bytes byte is (inl final) = inl (same_ascii flags bytes [] is IsAscii-nil final.0, final.1)
chars_there flags bytes byte is (inr (inl h)) = inr (inl (final_there (codes "a") 10 flags bytes byte a_ascii is h))
chars_there flags bytes byte is (inr (inr (inl h))) = inr (inr
    (inl (final_there (codes "b") 11 flags bytes byte b_ascii is h)))
chars_there flags bytes byte is (inr (inr (inr h))) = inr (inr
    (inr (final_there (codes "rc") 12 flags bytes byte rc_ascii is h)))

chars_here : (flags bytes : List ℕ) (byte : ℕ) → bytes ≡ encode_utf8_all flags → IsReleaseByte flags byte
    → IsReleaseByte bytes byte
chars_here flags bytes byte is (inl final) = inl (ascii_same flags bytes [] is IsAscii-nil final.0, final.1)
chars_here flags bytes byte is (inr (inl h)) = inr (inl (final_here (codes "a") 10 flags bytes byte a_ascii is h))
chars_here flags bytes byte is (inr (inr (inl h))) = inr (inr
    (inl (final_here (codes "b") 11 flags bytes byte b_ascii is h)))
chars_here flags bytes byte is (inr (inr (inr h))) = inr (inr
    (inr (final_here (codes "rc") 12 flags bytes byte rc_ascii is h)))

pub byte_tells : (r : Option ℕ) (flags bytes : List ℕ) → bytes ≡ encode_utf8_all flags → r ≡ release_byte bytes
    → MatchOption r ((byte : ℕ) → ¬ IsReleaseByte flags byte) (IsReleaseByte flags)
byte_tells None flags bytes is r_is = λ byte h. let found = is_found bytes byte (chars_here flags bytes byte is h) in
    let clash : None ≡ Some byte = r_is ∙ found in cc
byte_tells (Some byte) flags bytes is r_is = chars_there flags bytes byte is (found_is bytes byte (sym r_is))

-- ---- whether there is one

pub has_one : (r : Option ℕ) (b : Bool) (flags : List ℕ) → MatchOption r ((byte : ℕ)
    → ¬ IsReleaseByte flags byte) (IsReleaseByte flags) → b ≡ is_some r
    → IsTrue b ↔ HasReleaseByte flags
has_one None b flags h is = (λ t. let clash : false ≡ true = sym is ∙ t in cc, λ x. absurd (h x.0 x.1))
has_one (Some byte) b flags h is = (λ t. (byte, h), λ x. is)

-- the bytes of the flags have the same byte
pub byte_same : (flags bytes : List ℕ) → bytes ≡ encode_utf8_all flags → HasReleaseByte flags
    → release_byte bytes ≡ release_byte flags
byte_same flags bytes is h = is_found bytes h.0 (chars_here flags bytes h.0 is h.1) ∙ sym (is_found flags h.0 h.1)
