-- The end of a version: what the reader takes is what is spelled; and what a reader of flags or metadata stops at.
use Rattle.std.proofs.Common.{◌≡◌, ◌≢◌, ℕ, Bool, true, false, List, [], ◌∷◌, ◌++◌, drop, refl, sym, ap, ◌∙◌, arith}
use Rattle.std.proofs.Common.{⊎_elim, append_assoc}
use Rattle.std.specs.Prelude.{Option, Some, None, codes, ◌==◌, not}
use Rattle.std.specs.Char.{encode_utf8}
use Rattle.std.proofs.lemmas.Bool.{and_parts}
use Rattle.std.proofs.lemmas.Option.{same_Some}
use Rattle.std.proofs.lemmas.List.{append_cancel_left}
use Rattle.std.proofs.lemmas.Bool.Decides.{nat_tests}
use Rattle.bstr.specs.Utf8.{Decoded, decoded}
use Rattle.bstr.proofs.lemmas.EncodeLemmas.{decoded-encode}
use Rattle.bstr.proofs.lemmas.SoundLemmas.{SpellsChar-decoded}
use Rattle.py_fields.specs.Spelling.{AreFlags, IsEnd, IsLevel, IsMetadata, IsPreRelease}
use Rattle.py_fields.specs.Fronts.{digit_front, has_end, is_no_newline, level_len}
use Rattle.py_fields.proofs.Builds.{Ends}

-- ---- what stands behind the flags and the metadata

blank_no_level : (rest : List ℕ) → level_len (32 ∷ rest) ≡ 0
blank_no_level [] = refl
blank_no_level (b ∷ rest) = refl

plus_no_level : (rest : List ℕ) → level_len (43 ∷ rest) ≡ 0
plus_no_level [] = refl
plus_no_level (b ∷ rest) = refl

pub end_ends : (last after : List ℕ) → IsEnd last → Ends (last ++ after)
end_ends last after is = rw is.parts (record { no_more = refl; no_plus = refl })

pub behind_flags : (text last after : List ℕ) (m : Option (List ℕ)) → IsMetadata text m → IsEnd last → (level_len (text ++ (last ++ after)) ≡ 0) × (digit_front (text ++ (last ++ after)) ≡ None)
behind_flags text last after None is end = rw (is, end.parts) (blank_no_level _, refl)
behind_flags text last after (Some m) is end = rw is.parts (plus_no_level _, refl)

pub behind_patch : (flags rest : List ℕ) → AreFlags flags → digit_front rest ≡ None → digit_front (flags ++ rest) ≡ None
behind_patch flags rest are none = ⊎_elim (λ e. rw e none) letters are
  where
    by_level : (level more : List ℕ) → IsLevel level → digit_front (level ++ more) ≡ None
    by_level level more is =
        ⊎_elim (λ e. rw e refl) (λ a. ⊎_elim (λ e. rw e refl) (λ b. ⊎_elim (λ e. rw e refl) (λ e. rw e refl) b) a) is

    letters : IsPreRelease flags → digit_front (flags ++ rest) ≡ None
    letters p = ap (λ f. digit_front (f ++ rest)) p.parts ∙ ap digit_front (append_assoc p.level p.number rest) ∙ by_level p.level (p.number ++ rest) p.is_level

-- ---- the end

not_equal : (a b : ℕ) → a ≢ b → (a == b) ≡ false
not_equal a b apart = by (a == b) refl
  where
    by : (t : Bool) → (a == b) ≡ t → (a == b) ≡ false
    by true is = absurd (apart (grind (arith, nat_tests, is)))
    by false is = is

pub end_read : (last after : List ℕ) → IsEnd last → has_end (last ++ after) ≡ true
end_read last after is =
    let char : (decoded (encode_utf8 is.char ++ after)).char ≡ Some is.char = ap (λ (d : Decoded). d.char) (decoded-encode is.char after is.scalar) in
    let other : (is.char == 10) ≡ false = not_equal is.char 10 is.no_newline in
    rw is.parts (rw char (ap not other))

pub end_spells : (bytes : List ℕ) → has_end bytes ≡ true → (last : List ℕ) × (after : List ℕ) × IsEnd last × (bytes ≡ last ++ after)
end_spells [] passes = absurd (cc)
end_spells (space ∷ rest) passes = by (decoded rest).char refl (and_parts (space == 32) (is_no_newline (decoded rest).char) passes).1
  where
    by : (char : Option ℕ) → (decoded rest).char ≡ char → is_no_newline (decoded rest).char ≡ true → (last : List ℕ) × (after : List ℕ) × IsEnd last × (space ∷ rest ≡ last ++ after)
    by None is no_newline = absurd (cc (rw is at no_newline))
    by (Some c) is no_newline =
        let s = SpellsChar-decoded rest c is in
        let both = and_parts (space == 32) (is_no_newline (decoded rest).char) passes in
        let blank : space ≡ 32 = grind (arith, nat_tests, both.0) in
        let kept : not (c == 10) ≡ true = rw is at no_newline in
        let other : c ≢ 10 = λ e. absurd (cc (kept, e)) in
        (codes " " ++ encode_utf8 c, drop (decoded rest).size rest, record { char = c; scalar = s.scalar; no_newline = other; parts = refl }, ap (λ b. b ∷ rest) blank ∙ ap (λ r. 32 ∷ r) s.bytes)

-- one end alone stands at the front of some bytes
pub end_once : (one other after left : List ℕ) → IsEnd one → IsEnd other → one ++ after ≡ other ++ left → one ≡ other
end_once one other after left a b same =
    let bytes : encode_utf8 a.char ++ after ≡ encode_utf8 b.char ++ left = append_cancel_left (codes " ") _ _ (sym (ap (λ t. t ++ after) a.parts) ∙ same ∙ ap (λ t. t ++ left) b.parts) in
    let first : (decoded (encode_utf8 a.char ++ after)).char ≡ Some a.char = ap (λ (d : Decoded). d.char) (decoded-encode a.char after a.scalar) in
    let second : (decoded (encode_utf8 b.char ++ left)).char ≡ Some b.char = ap (λ (d : Decoded). d.char) (decoded-encode b.char left b.scalar) in
    let chars : a.char ≡ b.char = same_Some a.char b.char (sym first ∙ ap (λ t. (decoded t).char) bytes ∙ second) in
    a.parts ∙ ap (λ c. codes " " ++ encode_utf8 c) chars ∙ sym b.parts
