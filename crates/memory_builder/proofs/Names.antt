-- Texts that are compared by their bytes.
use Rattle.std.proofs.Common.{◌≡◌, ◌<◌, ◌∙◌, ℕ, List, [], length, nat_lt, Bool, true, false, refl, sym, subst, ap}
use Rattle.std.proofs.Common.{arith, rules}
use Rattle.std.specs.Prelude.{◌↔◌, IsTrue, codes, encode_utf8_all, not}
use Rattle.std.specs.Str.{all_scalars, bytes_eq, IsAscii, IsUtf8}
use Rattle.std.proofs.lemmas.Str.{length-le-encodes, chars_from_encodes, scalars-chars, encodes_same, encodes-IsAscii}
use Rattle.std.proofs.lemmas.Bool.{ltb-true, lt-ltb, not-true, not-false, not_from_false}
use Rattle.std.proofs.lemmas.Slice.Eq.{bytes_eq-Decides}
use Rattle.std.specs.Bool.{Decides}
use Rattle.py_stacks.specs.Frames.{is_hidden}
use Rattle.memory_builder.specs.Validity.{IsBriefText, IsShownFile}

pub brief_is : (text bytes : List ℕ) → IsUtf8 bytes → bytes ≡ encode_utf8_all text
    → IsTrue (nat_lt (length bytes) 4096) ↔ IsBriefText text
brief_is text bytes utf8 is =
    let scalars : all_scalars text ≡ true = subst (λ cs. all_scalars cs ≡ true)
    (sym (chars_from_encodes text bytes utf8 (sym is))) (scalars-chars bytes utf8) in
    let same : length bytes ≡ length (encode_utf8_all text) = ap length is in (
      λ t. let small : length bytes < 4096 = ltb-true (length bytes) 4096 t in
          record {
            scalars = scalars;
            chars = omega (arith, length-le-encodes text, same);
            bytes =
                omega (arith, same);
          },
      λ h. let small : length bytes < 4096 = omega (arith, h.bytes, same) in lt-ltb (length bytes) 4096 small,
    )

-- ---- files of frames that are shown

same : (xs ys : List ℕ) → bytes_eq xs ys ≡ true → xs ≡ ys
same xs ys t = (bytes_eq-Decides xs ys).0 t

differs : (xs ys : List ℕ) → bytes_eq xs ys ≡ false → xs ≡ ys → ⊥
differs xs ys t e = let clash : true ≡ false = sym ((bytes_eq-Decides xs ys).1 e) ∙ t in cc

apart : (xs ys : List ℕ) → (xs ≡ ys → ⊥) → bytes_eq xs ys ≡ false
apart xs ys no_same = elim (bytes_eq xs ys) as (λ b. Decides b (xs ≡ ys)
    → b ≡ false) [ true ↦ λ d. absurd (no_same (d.0 refl)) | false ↦ λ d. refl ] (bytes_eq-Decides xs ys)

shim_ascii : IsAscii (codes "<shim>")
shim_ascii = search rules

pub shown_is : (file bytes : List ℕ) → bytes ≡ encode_utf8_all file → (some : Bool) → some ≡ not (bytes_eq bytes [])
    → some ≡ true
    → (other : Bool) → other ≡ not (bytes_eq bytes (codes "<shim>")) → IsTrue other ↔ IsShownFile file
shown_is file bytes is some some_is some_true other other_is = (
  λ t. record {
    some = λ e. differs bytes [] (not-true _ (sym some_is ∙ some_true)) (is ∙ ap encode_utf8_all e);
    no_shim = λ e. differs bytes (codes "<shim>") (not-true _ (sym other_is ∙ t)) (is ∙ ap encode_utf8_all e
        ∙ encodes-IsAscii (codes "<shim>") shim_ascii);
  },
  λ h. other_is ∙ not_from_false _ (apart bytes (codes "<shim>")
      (λ e. h.no_shim (encodes_same file (codes "<shim>") (sym is ∙ e
      ∙ sym (encodes-IsAscii (codes "<shim>") shim_ascii))))),
)

pub empty_hidden : (file bytes : List ℕ) → bytes ≡ encode_utf8_all file → (some : Bool) → some ≡ not (bytes_eq bytes [])
    → some ≡ false → IsTrue some ↔ IsShownFile file
empty_hidden file bytes is some some_is some_false = (
  λ t. let clash : false ≡ true = sym some_false ∙ t in cc,
  λ h. absurd (h.some (encodes_same file [] (sym is ∙ same bytes [] (not-false _ (sym some_is ∙ some_false))))),
)

-- a frame of such a file isn't hidden
pub hidden_not : (file : List ℕ) → IsShownFile file → is_hidden file ≡ false
unfolding is_hidden
hidden_not file h =
    let none = apart (encode_utf8_all file) [] (λ e. h.some (encodes_same file [] e)) in
    let other = apart (encode_utf8_all file) (codes "<shim>")
    (λ e. h.no_shim (encodes_same file (codes "<shim>") (e ∙ sym (encodes-IsAscii (codes "<shim>") shim_ascii)))) in
    rw (none, other) refl
