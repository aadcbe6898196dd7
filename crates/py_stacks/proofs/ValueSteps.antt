-- The text of a value.
use Rattle.std.proofs.Common.{◌≡◌, ℕ, ◌*◌, ◌≤◌, List, sym, ◌∙◌, ap, arith}
use Rattle.std.specs.Prelude.{Some, None, IsSome, Result, Ok, Err, IfOk, encode_utf8_all}
use Rattle.std.specs.Str.{chars}
use Rattle.process_memory.specs.Memory.{Memory, Found, byte_at}
use Rattle.process_memory.specs.Seen.{Seen}
use Rattle.py_builtins.specs.Consulted.{Consulting, ConsultingBy}
use Rattle.process_memory.proofs.Reading.{reading_gives, reading_here}
use Rattle.py_fields.specs.declared.layout.Layout.{Layout}
use Rattle.py_builtins.specs.declared.error.ObjectError.{ObjectError}
use Rattle.py_builtins.specs.ObjectError.{object_fault}
use Rattle.py_objects.specs.Nodes.{values_in}
use Rattle.py_objects.specs.Shows.{AnswerShows, FaultShows, bytes_shown}
use Rattle.py_stacks.specs.declared.error.StackError.{StackError}
use Rattle.py_stacks.specs.Values.{IsOrLost, MarkedAs, text_or_mark, local_value_at, value_text, value_visits}

module _ (l : Layout) (m : Memory) (width a visits : ℕ) where
  text_is : (out : Found (List ℕ)) (after : ℕ) → local_value_at l m width a ≡ (out, after) → value_text l m width a ≡ text_or_mark out
  unfolding value_text
  text_is out after e = ap (λ (p : Found (List ℕ) × ℕ). text_or_mark p.0) e

  visits_are : (out : Found (List ℕ)) (after : ℕ) → local_value_at l m width a ≡ (out, after) → value_visits l m width a ≡ after
  unfolding value_visits
  visits_are out after e = ap (λ (p : Found (List ℕ) × ℕ). p.1) e

  text_told : (shown : Result (List ℕ) ObjectError) (result : Result (List ℕ) StackError)
      → IfOk shown (λ text. text ≡ chars (encode_utf8_all text))
      → AnswerShows object_fault (values_in l m) a width 0 (bytes_shown shown) visits → MarkedAs shown result → IsOrLost (value_text l m width a) result
  unfolding local_value_at
  text_told (Ok text) result whole s marked = rw marked (whole ∙ sym (text_is (Ok (encode_utf8_all text)) visits s))
  text_told (Err e) (Ok mark) whole s marked =
      elim (object_fault e) as (λ o. IsSome o → FaultShows (values_in l m) a width 0 o visits → mark ≡ value_text l m width a)
      [ None ↦ λ h t. absurd (cc) | Some f ↦ λ h t. marked.0 ∙ sym (text_is (Err f) visits t) ] marked.1 s
  text_told (Err e) (Err lost) whole s marked = marked

  visits_told : (shown : Result (List ℕ) ObjectError) → AnswerShows object_fault (values_in l m) a width 0 (bytes_shown shown) visits → visits ≤ value_visits l m width a
  unfolding local_value_at
  visits_told (Ok text) s = omega (arith, visits_are (Ok (encode_utf8_all text)) visits s)
  visits_told (Err e) s =
      elim (object_fault e) as (λ o. FaultShows (values_in l m) a width 0 o visits → visits ≤ value_visits l m width a)
      [ None ↦ λ t. omega (arith, visits_are t.0 t.1 t.2, t.3) | Some f ↦ λ t. omega (arith, visits_are (Err f) visits t) ] s

pub value_told : {s0 s1 : Seen} {n : ℕ} (l : Layout) (width a visits : ℕ) (shown : Result (List ℕ) ObjectError) (result : Result (List ℕ) StackError)
    → IfOk shown (λ text. text ≡ chars (encode_utf8_all text)) → MarkedAs shown result → n ≤ 8 * visits
    → Consulting l n s0 s1 (λ m. AnswerShows object_fault (values_in l m) a width 0 (bytes_shown shown) visits)
    → ConsultingBy l (λ m. 8 * value_visits l m width a) s0 s1 (λ m. IsOrLost (value_text l m width a) result)
value_told {s0 = s0} l width a visits shown result whole marked few r =
    let within = visits_told l (byte_at s0.pieces) width a visits shown (reading_here r) in
    reading_gives _ _ r (omega (arith, within, few)) (λ m s. text_told l m width a visits shown result whole s marked)
