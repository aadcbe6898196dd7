-- A character that doesn't end the line, and what stands behind it: what the reader takes is what is spelled.
use Rattle.std.proofs.Common.{◌≡◌, ◌≢◌, ℕ, Bool, true, false, List, ◌++◌, drop, length, refl, sym, ap, ◌∙◌, arith}
use Rattle.std.specs.Prelude.{Option, Some, None, ◌==◌, not, cond}
use Rattle.std.specs.Char.{encode_utf8}
use Rattle.std.proofs.lemmas.Bool.Decides.{nat_tests}
use Rattle.std.proofs.Math.Seq.{drop-append_seam}
use Rattle.bstr.specs.Utf8.{Decoded, decoded}
use Rattle.bstr.proofs.lemmas.EncodeLemmas.{decoded-encode}
use Rattle.bstr.proofs.lemmas.SoundLemmas.{SpellsChar-decoded}
use Rattle.py_process.specs.Library.{IsMark}
use Rattle.py_process.specs.LibraryFronts.{is_mark, past_mark}

not_equal : (a b : ℕ) → a ≢ b → (a == b) ≡ false
not_equal a b apart = by (a == b) refl
  where
    by : (t : Bool) → (a == b) ≡ t → (a == b) ≡ false
    by true is = absurd (apart (grind (arith, nat_tests, is)))
    by false is = is

pub mark_read : (c : ℕ) (rest : List ℕ) → IsMark c → past_mark (encode_utf8 c ++ rest) ≡ Some rest
mark_read c rest is =
    let d = decoded-encode c rest is.scalar in
    let passes : not (c == 10) ≡ true = ap not (not_equal c 10 is.no_newline) in
    ap (λ (d : Decoded). cond (is_mark d.char) (Some (drop d.size (encode_utf8 c ++ rest))) None) d
    ∙ ap (λ b. cond b (Some (drop (length (encode_utf8 c)) (encode_utf8 c ++ rest))) None) passes
    ∙ ap Some (drop-append_seam (encode_utf8 c) rest)

-- such a character stands at the front, and then these bytes
pub record Marked (bytes rest : List ℕ) : Type 0 where
  pub char : ℕ
  pub is : IsMark char
  pub parts : bytes ≡ encode_utf8 char ++ rest

pub mark_spells : (bytes rest : List ℕ) → past_mark bytes ≡ Some rest → Marked bytes rest
mark_spells bytes rest takes = by (decoded bytes).char refl
  where
    some : (c : ℕ) (b : Bool) → not (c == 10) ≡ b → (decoded bytes).char ≡ Some c → cond b (Some (drop (decoded bytes).size bytes)) None ≡ Some rest → Marked bytes rest
    some c false is at e = absurd (cc)
    some c true is at e =
        let s = SpellsChar-decoded bytes c at in
        let behind : drop (decoded bytes).size bytes ≡ rest = cc in
        let other : c ≢ 10 = λ same. absurd (cc (is, same)) in
        record { char = c; is = record { scalar = s.scalar; no_newline = other }; parts = s.bytes ∙ ap (λ r. encode_utf8 c ++ r) behind }

    by : (char : Option ℕ) → (decoded bytes).char ≡ char → Marked bytes rest
    by None at = absurd (cc (sym (ap (λ m. cond (is_mark m) (Some (drop (decoded bytes).size bytes)) None) at) ∙ takes))
    by (Some c) at =
        some c (not (c == 10)) refl at
        (sym (ap (λ m. cond (is_mark m) (Some (drop (decoded bytes).size bytes)) None) at) ∙ takes)
