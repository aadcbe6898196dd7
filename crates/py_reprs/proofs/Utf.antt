-- Bytes that are a text.
use Rattle.std.proofs.Common.{◌≡◌, ℕ, true, false, cond, List, refl}
use Rattle.std.specs.Prelude.{Some, None}
use Rattle.std.specs.Str.{IsUtf8, chars, is_utf8}
use Rattle.std.proofs.lemmas.Str.{IsUtf8-from_is_utf8, is_utf8-from_IsUtf8}
use Rattle.py_reprs.specs.Names.{text_if}

pub text_ok : (bytes : List ℕ) → IsUtf8 bytes → text_if (Some bytes) ≡ Some (chars bytes)
text_ok bytes h = rw (is_utf8-from_IsUtf8 bytes h) refl

pub text_bad : (bytes : List ℕ) → (IsUtf8 bytes → ⊥) → text_if (Some bytes) ≡ None
text_bad bytes h =
    elim (is_utf8 bytes) as (λ b. is_utf8 bytes ≡ b → cond b (Some (chars bytes)) None ≡ None)
    [ true ↦ λ e. absurd (h (IsUtf8-from_is_utf8 bytes e)) | false ↦ λ e. refl ] refl
