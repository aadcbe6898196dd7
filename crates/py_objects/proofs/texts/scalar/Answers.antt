use Rattle.std.proofs.Common.{◌≡◌, ◌∙◌, sym, ap, rules}
use Rattle.std.specs.Prelude.{Ok}
use Rattle.elf64_core.specs.Fields.{u8_in}
use Rattle.std.specs.Prelude.{decimal, List, ℕ, ℤ}
use Rattle.std.specs.Fmt.{signed_decimal}
use Rattle.std.specs.Int.{Width, w8, w16, w32, w64, cast_signed}
use Rattle.std.proofs.lemmas.Int.{to_z-of_z}
use Rattle.process_memory.specs.Memory.{Found}
use Rattle.py_objects.specs.ShownTexts.{float_text}
use Rattle.py_objects.proofs.texts.scalar.Goals.{in-U8+in_ok-text-in-U8, in-U16+in_ok-text-in-U16}
use Rattle.py_objects.proofs.texts.scalar.Goals.{in-U32+in_ok-text-in-U32, in-U64+in_ok-text-in-U64}
use Rattle.py_objects.proofs.texts.scalar.Goals.{in-I8+in_ok-text-in-I8, in-I16+in_ok-text-in-I16}
use Rattle.py_objects.proofs.texts.scalar.Goals.{in-I32+in_ok-text-in-I32, in-I64+in_ok-text-in-I64}
use Rattle.py_objects.proofs.texts.scalar.Goals.{in-F32+in_ok-text-in-F32, in-F64+in_ok-text-in-F64}
use Rattle.py_objects.proofs.texts.scalar.Goals as goal

-- a number with a sign
shown : (w : Width) (z y : ℤ) → z ≡ y → {text : List ℕ} → text ≡ signed_decimal z → ◌≡◌ {A = Found (List ℕ)} (Ok (signed_decimal y)) (Ok text)
shown w z y same text = ap Ok (ap signed_decimal (sym same) ∙ sym text)

pub returns-in-Truth : goal.returns-in-Truth
unfolding u8_in
returns-in-Truth c = rw c.in-Truth.is c.truth.ensures

pub returns : goal.returns
unfolding u8_in
returns c = record {
  is = elim c.match-scalar.branch [
    | in-U8+in_ok-text-in-U8 w ↦ rw (w.in-U8.is, w.text-is) (ap Ok (sym w.in_ok-text-in-U8.ensures.ok))
    | in-U16+in_ok-text-in-U16 w ↦ rw (w.in-U16.is, w.text-is) (ap (λ n. Ok (decimal n)) (sym w.u16_in.ensures) ∙ ap Ok (sym w.in_ok-text-in-U16.ensures.ok))
    | in-U32+in_ok-text-in-U32 w ↦ rw (w.in-U32.is, w.text-is) (ap (λ n. Ok (decimal n)) (sym w.u32_in.ensures) ∙ ap Ok (sym w.in_ok-text-in-U32.ensures.ok))
    | in-U64+in_ok-text-in-U64 w ↦ rw (w.in-U64.is, w.text-is) (ap (λ n. Ok (decimal n)) (sym w.u64_in.ensures) ∙ ap Ok (sym w.in_ok-text-in-U64.ensures.ok))
    | in-I8+in_ok-text-in-I8 w ↦ rw (w.in-I8.is, w.text-is) (shown w8 _ _ (w.cast_signed.ensures) (w.in_ok-text-in-I8.ensures.ok ∙ ap signed_decimal (to_z-of_z w8 w.cast_signed.result (search rules))))
    | in-I16+in_ok-text-in-I16 w ↦ rw (w.in-I16.is, w.text-is) (shown w16 _ _ (w.cast_signed-in-I16.ensures ∙ ap (cast_signed w16) w.u16_in-in-I16.ensures) (w.in_ok-text-in-I16.ensures.ok ∙ ap signed_decimal (to_z-of_z w16 w.cast_signed-in-I16.result (search rules))))
    | in-I32+in_ok-text-in-I32 w ↦ rw (w.in-I32.is, w.text-is) (shown w32 _ _ (w.cast_signed-in-I32.ensures ∙ ap (cast_signed w32) w.u32_in-in-I32.ensures) (w.in_ok-text-in-I32.ensures.ok ∙ ap signed_decimal (to_z-of_z w32 w.cast_signed-in-I32.result (search rules))))
    | in-I64+in_ok-text-in-I64 w ↦ rw (w.in-I64.is, w.text-is) (shown w64 _ _ (w.cast_signed-in-I64.ensures ∙ ap (cast_signed w64) w.u64_in-in-I64.ensures) (w.in_ok-text-in-I64.ensures.ok ∙ ap signed_decimal (to_z-of_z w64 w.cast_signed-in-I64.result (search rules))))
    | in-F32+in_ok-text-in-F32 w ↦ rw (w.in-F32.is, w.text-is) (ap (λ n. Ok (float_text 8 n)) (sym w.u32_in-in-F32.ensures) ∙ ap Ok (sym w.in_ok-text-in-F32.ensures))
    | in-F64+in_ok-text-in-F64 w ↦ rw (w.in-F64.is, w.text-is) (ap (λ n. Ok (float_text 16 n)) (sym w.u64_in-in-F64.ensures) ∙ ap Ok (sym w.in_ok-text-in-F64.ensures))
  ];
}
