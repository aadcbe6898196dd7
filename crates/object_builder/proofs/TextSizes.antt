-- Texts, by the bytes that they are read from.
use Rattle.std.proofs.Common.{◌≡◌, ◌∙◌, ℕ, List, Bool, true, false, sym, ap, refl, subst}
use Rattle.std.specs.Prelude.{encode_utf8_all}
use Rattle.std.specs.Str.{IsUtf8, chars}
use Rattle.std.proofs.lemmas.Str.{chars_from_encodes}
use Rattle.py_fields.specs.declared.layout.Strings.{Strings}
use Rattle.py_fields.specs.declared.layout.Strings.TheVariants.{State}
use Rattle.object_builder.specs.Sizes.{all_under, is_short_headed, least_width}

pub chars_are : (text bytes : List ℕ) → IsUtf8 bytes → bytes ≡ encode_utf8_all text → chars bytes ≡ text
chars_are text bytes utf8 is = sym (chars_from_encodes text bytes utf8 (sym is))

pub under_is : (limit : ℕ) (text bytes : List ℕ) (b : Bool) → IsUtf8 bytes → bytes ≡ encode_utf8_all text
    → b ≡ all_under limit (chars bytes) → b ≡ all_under limit text
under_is limit text bytes b utf8 is h = h ∙ ap (all_under limit) (chars_are text bytes utf8 is)

pub state_is : (s : Strings) (text : List ℕ) (b : Bool) → s ≡ State → b ≡ all_under 0x80 text
    → b ≡ is_short_headed s text
state_is s text b is h = subst (λ k. b ≡ is_short_headed k text) (sym is) h

pub width_one : (text : List ℕ) → all_under 0x100 text ≡ true → 1 ≡ least_width text
width_one text t = rw t refl

pub width_two : (text : List ℕ) → all_under 0x100 text ≡ false → all_under 0x1_0000 text ≡ true → 2 ≡ least_width text
width_two text f t = rw (f, t) refl

pub width_four : (text : List ℕ) → all_under 0x100 text ≡ false → all_under 0x1_0000 text ≡ false → 4 ≡ least_width text
width_four text f g = rw (f, g) refl
