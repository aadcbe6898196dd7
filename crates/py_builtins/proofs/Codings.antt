-- Characters and the bytes of their codings.
use Rattle.std.proofs.Common.{◌≡◌, ℕ, zero, suc, ◌+◌, ◌-◌, ◌*◌, ◌/◌, ◌%◌, ◌<◌, ◌≤◌, ◌^◌, Bool, true, false, cond, not}
use Rattle.std.proofs.Common.{List, [], ◌∷◌, ◌++◌, length, get_or, take, drop, map, refl, sym, ap, ap₂, ◌∙◌, arith, inl}
use Rattle.std.proofs.Common.{inr, length-append, append-nil, add-one, encode_utf8_all, encode_utf8}
use Rattle.std.specs.Prelude.{◌&&◌, Some, None, Ok, Err, is_some}
use Rattle.std.specs.Option.{unwrap_or}
use Rattle.std.specs.List.{flat_map, list_any}
use Rattle.std.specs.Int.{w16, w32, to_le_bytes, from_le_bytes}
use Rattle.std.specs.String.{IsUtf16Of}
use Rattle.std.specs.Str.{chars, all_scalars, bytes_eq, IsUtf8}
use Rattle.std.specs.Simd.{first_chunks}
use Rattle.std.specs.Char.Escape.{encode_utf16}
use Rattle.std.specs.Char.Utf16.{utf16_chars, lone_unit_char, surrogate_pair_char, utf16_lossy_chars}
use Rattle.std.specs.Char.Utf16.{has_unpaired_surrogate}
use Rattle.std.proofs.Math.Utf8.{scalar, scalars, scalar_cases, scalar_fits, low_scalar}
use Rattle.std.proofs.str.Utf16.{IsPair, lone_unit_char_low, lone_unit_char_high, one_unit, two_units}
use Rattle.std.proofs.lemmas.Bool.{cases_lt}
use Rattle.std.proofs.lemmas.Nat.{le_bytes_2, le_bytes_4, from_le_bytes-to_le_bytes_2, from_le_bytes-to_le_bytes_4}
use Rattle.std.proofs.lemmas.Grind.{common_steps}
use Rattle.std.proofs.Math.Seq.{take-suc, take-append_seam, drop-append_seam}
use Rattle.std.proofs.lemmas.List.{get_or-map, length-map, map-append, take-append-drop, get_or-take, get_or-drop}
use Rattle.std.proofs.lemmas.List.{length-take, get_or_past}
use Rattle.std.proofs.lemmas.Slice.Eq.{bytes_eq-Decides}
use Rattle.std.proofs.lemmas.Str.{chars-encodes, encodes-chars, scalars-chars, encodes_same, encodes-append}
use Rattle.std.proofs.lemmas.Str.{utf16_chars-nil, utf16_chars_lone, utf16_chars_pair}
use Rattle.process_memory.specs.Memory.{found_or}
use Rattle.process_memory.specs.Memory.Fault.{NoText}
use Rattle.process_memory.specs.Seen.{Answers}
use Rattle.py_builtins.specs.declared.error.ObjectError.{ObjectError}
use Rattle.py_builtins.specs.declared.error.ObjectError.TheVariants.{NoText as HasNoText}
use Rattle.py_builtins.specs.declared.coding.TextKind.{TextKind}
use Rattle.py_builtins.specs.declared.coding.TextKind.TheVariants.{Utf8, Latin1, Utf16, Utf32}
use Rattle.py_builtins.specs.ObjectError.{object_fault}
use Rattle.py_builtins.specs.TextKind.{coded, decoded, IsCodingOf, read_as, is_coding_of, numbers_of}

both : (p q : Bool) → (p && q) ≡ true → (p ≡ true) × (q ≡ true)
both true true e = (refl, refl)
both true false e = absurd (cc)
both false true e = absurd (cc)
both false false e = absurd (cc)

abbrev pub AllBelow : ℕ → List ℕ → Type 0
AllBelow n [] = Unit {0}
AllBelow n (x ∷ xs) = (x < n) × AllBelow n xs

below-append : (n : ℕ) (xs ys : List ℕ) → AllBelow n xs → AllBelow n ys → AllBelow n (xs ++ ys)
below-append n [] ys p q = q
below-append n (x ∷ xs) ys p q = (p.0, below-append n xs ys p.1 q)

-- ---- numbers and their bytes

abbrev pub AreBytes : List ℕ → Type 0
AreBytes bytes = (i : ℕ) → get_or bytes i 0 < 256

bytes_take : (n : ℕ) (bytes : List ℕ) → AreBytes bytes → AreBytes (take n bytes)
bytes_take n bytes small i = elim (cases_lt i n)
    [ inl lt ↦ rw (get_or-take n bytes i 0 lt) (small i) | inr past ↦ rw (get_or_past (take n bytes) i 0 (omega (arith, length-take {A = ℕ}))) (omega arith) ]

bytes_drop : (n : ℕ) (bytes : List ℕ) → AreBytes bytes → AreBytes (drop n bytes)
bytes_drop n bytes small i = rw (get_or-drop n bytes i 0) (small (n + i))

module _ (n : ℕ) (to : ℕ → List ℕ) (from : List ℕ → ℕ) where
  -- numbers are read back from their bytes
  module _ (limit : ℕ) (size : (x : ℕ) → length (to x) ≡ n) (same : (x : ℕ) → x < limit → from (to x) ≡ x) where
    length_written : (xs : List ℕ) → length (flat_map to xs) ≡ length xs * n
    length_written [] = omega arith
    length_written (x ∷ xs) = omega (arith, length-append (to x) (flat_map to xs), size x, length_written xs)

    read_written : (xs : List ℕ) → AllBelow limit xs → map from (first_chunks n (length xs) (flat_map to xs)) ≡ xs
    read_written [] p = refl
    read_written (x ∷ xs) p =
        let rest = flat_map to xs in
        let front : take n (to x ++ rest) ≡ to x = ap (λ k. take k (to x ++ rest)) (sym (size x)) ∙ take-append_seam (to x) rest in
        let behind : drop n (to x ++ rest) ≡ rest = ap (λ k. drop k (to x ++ rest)) (sym (size x)) ∙ drop-append_seam (to x) rest in
        rw (front, behind, same x p.0, read_written xs p.1) refl

  -- and bytes are written back from their numbers
  module _ (back : (bs : List ℕ) → length bs ≡ n → AreBytes bs → to (from bs) ≡ bs) where
    write_read : (k : ℕ) (bytes : List ℕ) → length bytes ≡ k * n → AreBytes bytes → flat_map to (map from (first_chunks n k bytes)) ≡ bytes
    write_read zero [] len small = refl
    write_read zero (b ∷ bytes) len small = absurd (omega arith)
    write_read (suc k) bytes len small =
        let front : length (take n bytes) ≡ n = grind (arith, common_steps) in
        let behind : length (drop n bytes) ≡ k * n = grind (arith, common_steps) in
        let first : to (from (take n bytes)) ≡ take n bytes = back (take n bytes) front (bytes_take n bytes small) in
        let rest : flat_map to (map from (first_chunks n k (drop n bytes))) ≡ drop n bytes = write_read k (drop n bytes) behind (bytes_drop n bytes small) in
        ap₂ (λ a b. a ++ b) first rest ∙ take-append-drop n bytes

units_back : (us : List ℕ) → AllBelow (2 ^ 16) us → numbers_of w16 2 (flat_map (to_le_bytes w16) us) ≡ us
units_back us p =
    let bytes = flat_map (to_le_bytes w16) us in
    let len : length bytes / 2 ≡ length us = omega (arith, length_written 2 (to_le_bytes w16) (from_le_bytes w16) (2 ^ 16) (λ x. refl) from_le_bytes-to_le_bytes_2 us) in
    ap (λ k. map (from_le_bytes w16) (first_chunks 2 k bytes)) len ∙ read_written 2 (to_le_bytes w16) (from_le_bytes w16) (2 ^ 16) (λ x. refl) from_le_bytes-to_le_bytes_2 us p

codes_back : (cs : List ℕ) → AllBelow (2 ^ 32) cs → numbers_of w32 4 (flat_map (to_le_bytes w32) cs) ≡ cs
codes_back cs p =
    let bytes = flat_map (to_le_bytes w32) cs in
    let len : length bytes / 4 ≡ length cs = omega (arith, length_written 4 (to_le_bytes w32) (from_le_bytes w32) (2 ^ 32) (λ x. refl) from_le_bytes-to_le_bytes_4 cs) in
    ap (λ k. map (from_le_bytes w32) (first_chunks 4 k bytes)) len ∙ read_written 4 (to_le_bytes w32) (from_le_bytes w32) (2 ^ 32) (λ x. refl) from_le_bytes-to_le_bytes_4 cs p

scalars_fit : (cs : List ℕ) → all_scalars cs ≡ true → AllBelow (2 ^ 32) cs
scalars_fit [] e = tt
scalars_fit (c ∷ cs) e = let p = both (scalar c) (scalars cs) e in (scalar_fits c p.0, scalars_fit cs p.1)

units_written : (bytes : List ℕ) → length bytes % 2 ≡ 0 → AreBytes bytes → flat_map (to_le_bytes w16) (numbers_of w16 2 bytes) ≡ bytes
units_written bytes even small = write_read 2 (to_le_bytes w16) (from_le_bytes w16) (λ bs len fit. le_bytes_2 bs _ len fit refl) (length bytes / 2) bytes (omega arith) small

codes_written : (bytes : List ℕ) → length bytes % 4 ≡ 0 → AreBytes bytes → flat_map (to_le_bytes w32) (numbers_of w32 4 bytes) ≡ bytes
codes_written bytes even small = write_read 4 (to_le_bytes w32) (from_le_bytes w32) (λ bs len fit. le_bytes_4 bs _ len fit refl) (length bytes / 4) bytes (omega arith) small

-- ---- UTF-16

module _ (c : ℕ) (is : scalar c ≡ true) where
  units_fit : AllBelow (2 ^ 16) (encode_utf16 c)
  units_fit = elim (cases_lt c 0x1_0000) [
    | inl low ↦ rw (one_unit c low) (omega arith, tt)
    | inr high ↦ elim (scalar_cases c is) [ inl below ↦ absurd (omega arith) | inr within ↦ rw (two_units c high) (omega arith, (omega arith, tt)) ]
  ]

  first_char : (us : List ℕ) → utf16_chars (encode_utf16 c ++ us) ≡ Some c ∷ utf16_chars us
  first_char us = elim (cases_lt c 0x1_0000) [
    | inl low ↦ rw (one_unit c low) (utf16_chars_lone c us (apart low) ∙ ap (λ o. o ∷ utf16_chars us) (lone low))
    | inr high ↦ elim (scalar_cases c is) [ inl below ↦ absurd (omega arith) | inr within ↦ rw (two_units c high) (pair high within.1) ]
  ]
    where
      apart : c < 0x1_0000 → IsPair c (get_or us 0 0) → ⊥
      apart low p = elim (scalar_cases c is) [ inl below ↦ absurd (omega arith) | inr within ↦ absurd (omega arith) ]

      lone : c < 0x1_0000 → lone_unit_char c ≡ Some c
      lone low = elim (scalar_cases c is) [ inl below ↦ lone_unit_char_low c below | inr within ↦ lone_unit_char_high c within.0 ]

      pair : 0x1_0000 ≤ c → c < 0x11_0000 → utf16_chars ((0xD800 + (c - 0x1_0000) / 0x400) ∷ (0xDC00 + (c - 0x1_0000) % 0x400) ∷ us) ≡ Some c ∷ utf16_chars us
      pair high below =
          let u = 0xD800 + (c - 0x1_0000) / 0x400 in
          let v = 0xDC00 + (c - 0x1_0000) % 0x400 in
          let is : surrogate_pair_char u v ≡ c = omega arith in
          utf16_chars_pair u v us (omega arith, omega arith, omega arith, omega arith) ∙ ap (λ d. Some d ∷ utf16_chars us) is

all_units_fit : (cs : List ℕ) → all_scalars cs ≡ true → AllBelow (2 ^ 16) (flat_map encode_utf16 cs)
all_units_fit [] e = tt
all_units_fit (c ∷ cs) e =
    let p = both (scalar c) (scalars cs) e in
    below-append (2 ^ 16) (encode_utf16 c) (flat_map encode_utf16 cs) (units_fit c p.0) (all_units_fit cs p.1)

chars_back : (cs : List ℕ) → all_scalars cs ≡ true → utf16_chars (flat_map encode_utf16 cs) ≡ map Some cs
chars_back [] e = utf16_chars-nil
chars_back (c ∷ cs) e =
    let p = both (scalar c) (scalars cs) e in
    first_char c p.0 (flat_map encode_utf16 cs) ∙ ap (λ os. Some c ∷ os) (chars_back cs p.1)

lossy_some : (us cs : List ℕ) → utf16_chars us ≡ map Some cs → utf16_lossy_chars us ≡ cs
lossy_some us cs e = rw e (somes cs)
  where
    somes : (cs : List ℕ) → map (λ o. unwrap_or o 0xFFFD) (map Some cs) ≡ cs
    somes [] = refl
    somes (c ∷ cs) = ap (λ ds. c ∷ ds) (somes cs)

paired_some : (us cs : List ℕ) → utf16_chars us ≡ map Some cs → has_unpaired_surrogate us ≡ false
paired_some us cs e = rw e (somes cs)
  where
    somes : (cs : List ℕ) → list_any (λ o. not (is_some o)) (map Some cs) ≡ false
    somes [] = refl
    somes (c ∷ cs) = somes cs

-- ---- all codings

-- characters are read back from their coding
read_back : (k : TextKind) (cs : List ℕ) → all_scalars cs ≡ true → read_as k (coded k cs) ≡ cs
unfolding coded
read_back Utf8 cs e = chars-encodes cs e
read_back Latin1 cs e = refl
read_back Utf16 cs e =
    let us = flat_map encode_utf16 cs in
    ap utf16_lossy_chars (units_back us (all_units_fit cs e)) ∙ lossy_some us cs (chars_back cs e)
read_back Utf32 cs e = codes_back cs (scalars_fit cs e)

-- the characters of a coding are those that it decodes to
pub decoded_is : (k : TextKind) (cs bytes : List ℕ) → IsCodingOf k cs bytes → decoded k bytes ≡ Some cs
unfolding decoded
decoded_is k cs bytes h =
    let back : read_as k bytes ≡ cs = ap (read_as k) (sym h.is) ∙ read_back k cs h.scalars in
    rw (back, h.scalars, (bytes_eq-Decides (coded k cs) bytes).1 h.is) refl

test_coding : (k : TextKind) (cs bytes : List ℕ) → is_coding_of k cs bytes ≡ true → IsCodingOf k cs bytes
test_coding k cs bytes e =
    let p = both (all_scalars cs) (bytes_eq (coded k cs) bytes) e in
    record { scalars = p.0; is = (bytes_eq-Decides (coded k cs) bytes).0 p.1 }

pub coding_of_decoded : (k : TextKind) (cs bytes : List ℕ) → decoded k bytes ≡ Some cs → IsCodingOf k cs bytes
unfolding decoded
coding_of_decoded k cs bytes =
    elim (is_coding_of k (read_as k bytes) bytes) as (λ t. is_coding_of k (read_as k bytes) bytes ≡ t → cond t (Some (read_as k bytes)) None ≡ Some cs → IsCodingOf k cs bytes)
    [ true ↦ λ t e. let same : read_as k bytes ≡ cs = cc in rw (← same) (test_coding k (read_as k bytes) bytes t) | false ↦ λ t e. absurd (cc) ] refl

-- bytes that are no coding decode to nothing
pub decoded_none : (k : TextKind) (bytes : List ℕ) → ((cs : List ℕ) → IsCodingOf k cs bytes → ⊥) → decoded k bytes ≡ None
unfolding decoded
decoded_none k bytes none =
    elim (is_coding_of k (read_as k bytes) bytes) as (λ t. is_coding_of k (read_as k bytes) bytes ≡ t → cond t (Some (read_as k bytes)) None ≡ None)
    [ true ↦ λ t. absurd (none (read_as k bytes) (test_coding k (read_as k bytes) bytes t)) | false ↦ λ t. refl ] refl

-- ---- what decoders owe

pub answers_coding : (k : TextKind) (cs bytes : List ℕ) → IsCodingOf k cs bytes → Answers {E = ObjectError} object_fault (found_or (decoded k bytes) NoText) (Ok cs)
answers_coding k cs bytes h = record { is = ap (λ o. found_or o NoText) (decoded_is k cs bytes h) }

pub answers_none : (k : TextKind) (bytes : List ℕ) → ((cs : List ℕ) → IsCodingOf k cs bytes → ⊥) → Answers {T = List ℕ} object_fault (found_or (decoded k bytes) NoText) (Err HasNoText)
answers_none k bytes none = record { is = ap (λ o. found_or o NoText) (decoded_none k bytes none) }

-- ---- what each decoder found

pub utf8_coding : (bytes : List ℕ) → IsUtf8 bytes → IsCodingOf Utf8 (chars bytes) bytes
unfolding coded
utf8_coding bytes h = record { scalars = scalars-chars bytes h; is = encodes-chars bytes h }

pub utf8_none : (bytes : List ℕ) → (IsUtf8 bytes → ⊥) → (cs : List ℕ) → IsCodingOf Utf8 cs bytes → ⊥
unfolding coded
utf8_none bytes none cs h = none (cs, (h.scalars, h.is))

scalars_below : (bytes : List ℕ) → AllBelow 256 bytes → all_scalars bytes ≡ true
scalars_below [] p = refl
scalars_below (b ∷ bytes) p = rw (low_scalar b (omega (arith, p.0)), scalars_below bytes p.1) refl

all_below : (n : ℕ) (xs : List ℕ) → ((i : ℕ) → i < length xs → get_or xs i 0 < n) → AllBelow n xs
all_below n [] h = tt
all_below n (x ∷ xs) h = (h 0 (omega arith), all_below n xs (λ i lt. h (suc i) (omega arith)))

pub latin1_coding : (bytes : List ℕ) → AreBytes bytes → IsCodingOf Latin1 bytes bytes
unfolding coded
latin1_coding bytes h = record { scalars = scalars_below bytes (all_below 256 bytes (λ i lt. h i)); is = refl }

-- the characters of a text that spells them
pub text_is : (text bytes cs : List ℕ) → text ≡ chars bytes → bytes ≡ encode_utf8_all cs → all_scalars cs ≡ true → text ≡ cs
text_is text bytes cs is of scalars = is ∙ ap chars of ∙ chars-encodes cs scalars

pub answers_latin1 : (text bytes spelled : List ℕ) → text ≡ chars spelled → spelled ≡ encode_utf8_all bytes → AreBytes bytes → Answers {E = ObjectError} object_fault (found_or (decoded Latin1 bytes) NoText) (Ok text)
answers_latin1 text bytes spelled is of small =
    let h = latin1_coding bytes small in
    let same : text ≡ bytes = text_is text spelled bytes is of h.scalars in
    answers_coding Latin1 text bytes (rw same h)

module _ (bytes units : List ℕ) (read : units ≡ numbers_of w16 2 bytes) where
  pub answers_utf16 : (text spelled : List ℕ) → text ≡ chars spelled → IsUtf8 spelled → IsUtf16Of units spelled → length bytes % 2 ≡ 0 → AreBytes bytes → Answers {E = ObjectError} object_fault (found_or (decoded Utf16 bytes) NoText) (Ok text)
  unfolding coded
  answers_utf16 text spelled is utf8 (cs, of, as_utf8) even small =
      let chars_same : utf8.0 ≡ cs = encodes_same utf8.0 cs (utf8.1.1 ∙ as_utf8) in
      let scalars : all_scalars cs ≡ true = rw chars_same at utf8.1.0 in
      let text_same : text ≡ cs = text_is text spelled cs is as_utf8 scalars in
      let written : flat_map (to_le_bytes w16) units ≡ bytes = ap (λ us. flat_map (to_le_bytes w16) us) read ∙ units_written bytes even small in
      answers_coding Utf16 text bytes (rw text_same (record { scalars = scalars; is = rw (← of) written }))

  none_unpaired : has_unpaired_surrogate units ≡ true → (cs : List ℕ) → IsCodingOf Utf16 cs bytes → ⊥
  unfolding coded
  none_unpaired unpaired cs h =
      let us = flat_map encode_utf16 cs in
      let units_same : us ≡ units = sym (units_back us (all_units_fit cs h.scalars)) ∙ ap (numbers_of w16 2) h.is ∙ sym read in
      let paired : has_unpaired_surrogate us ≡ false = paired_some us cs (chars_back cs h.scalars) in
      let paired2 : has_unpaired_surrogate units ≡ false = rw units_same at paired in
      cc

  pub no_utf16 : has_unpaired_surrogate units ≡ true → Answers {T = List ℕ} object_fault (found_or (decoded Utf16 bytes) NoText) (Err HasNoText)
  no_utf16 unpaired = answers_none Utf16 bytes (none_unpaired unpaired)

scalar_in : (cs : List ℕ) (i : ℕ) → all_scalars cs ≡ true → i < length cs → scalar (get_or cs i 0) ≡ true
scalar_in [] i e lt = absurd (omega arith)
scalar_in (c ∷ cs) zero e lt = (both (scalar c) (scalars cs) e).0
scalar_in (c ∷ cs) (suc i) e lt = scalar_in cs i (both (scalar c) (scalars cs) e).1 (omega arith)

pub scalars_end : (cs : List ℕ) (c : ℕ) → all_scalars cs ≡ true → scalar c ≡ true → all_scalars (cs ++ c ∷ []) ≡ true
scalars_end [] c e is = rw is refl
scalars_end (d ∷ cs) c e is = let p = both (scalar d) (scalars cs) e in rw (p.0, scalars_end cs c p.1 is) refl

-- one more code was read
pub one_more : (codes : List (List ℕ)) (i code : ℕ) → i < length codes → code ≡ from_le_bytes w32 (get_or codes i []) → map (from_le_bytes w32) (take (i + 1) codes) ≡ map (from_le_bytes w32) (take i codes) ++ code ∷ []
one_more codes i code lt is = ap (λ n. map (from_le_bytes w32) (take n codes)) (add-one i) ∙ ap (λ xs. map (from_le_bytes w32) xs) (take-suc codes i [] lt) ∙ map-append (from_le_bytes w32) (take i codes) (get_or codes i [] ∷ []) ∙ ap (λ c. map (from_le_bytes w32) (take i codes) ++ c ∷ []) (sym is)

pub one_pushed : (text more cs : List ℕ) (c : ℕ) → text ≡ encode_utf8_all cs → more ≡ text ++ encode_utf8 c → more ≡ encode_utf8_all (cs ++ c ∷ [])
one_pushed text more cs c of pushed = pushed ∙ ap (λ t. t ++ encode_utf8 c) of ∙ ap (λ t. encode_utf8_all cs ++ t) (sym (append-nil (encode_utf8 c))) ∙ sym (encodes-append cs (c ∷ []))

module _ (bytes : List ℕ) (codes : List (List ℕ)) (read : codes ≡ first_chunks 4 (length bytes / 4) bytes) where
  numbers_same : map (from_le_bytes w32) codes ≡ numbers_of w32 4 bytes
  numbers_same = ap (λ xs. map (from_le_bytes w32) xs) read

  pub answers_utf32 : (text spelled : List ℕ) → text ≡ chars spelled → spelled ≡ encode_utf8_all (map (from_le_bytes w32) codes) → all_scalars (map (from_le_bytes w32) codes) ≡ true → length bytes % 4 ≡ 0 → AreBytes bytes → Answers {E = ObjectError} object_fault (found_or (decoded Utf32 bytes) NoText) (Ok text)
  unfolding coded
  answers_utf32 text spelled is of scalars even small =
      let cs = map (from_le_bytes w32) codes in
      let text_same : text ≡ cs = text_is text spelled cs is of scalars in
      let written : flat_map (to_le_bytes w32) cs ≡ bytes = ap (λ us. flat_map (to_le_bytes w32) us) numbers_same ∙ codes_written bytes even small in
      answers_coding Utf32 text bytes (rw text_same (record { scalars = scalars; is = written }))

  none_foreign : (i : ℕ) (code : ℕ) → i < length codes → code ≡ from_le_bytes w32 (get_or codes i []) → (scalar code ≡ true → ⊥) → (cs : List ℕ) → IsCodingOf Utf32 cs bytes → ⊥
  unfolding coded
  none_foreign i code lt is none cs h =
      let same : cs ≡ map (from_le_bytes w32) codes = sym (codes_back cs (scalars_fit cs h.scalars)) ∙ ap (numbers_of w32 4) h.is ∙ sym numbers_same in
      let len : length cs ≡ length codes = ap length same ∙ length-map codes (from_le_bytes w32) in
      let here : get_or cs i 0 ≡ code = ap (λ xs. get_or xs i 0) same ∙ get_or-map (from_le_bytes w32) codes i [] 0 lt ∙ sym is in
      none (rw here at (scalar_in cs i h.scalars (omega arith)))

  pub no_utf32 : (i : ℕ) (code : ℕ) → i < length codes → code ≡ from_le_bytes w32 (get_or codes i []) → (scalar code ≡ true → ⊥) → Answers {T = List ℕ} object_fault (found_or (decoded Utf32 bytes) NoText) (Err HasNoText)
  no_utf32 i code lt is none = answers_none Utf32 bytes (none_foreign i code lt is none)
