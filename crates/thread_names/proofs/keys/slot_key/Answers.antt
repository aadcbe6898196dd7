use Rattle.std.proofs.Common.{FitsSigned, ◌≡◌, ◌∙◌, ap, arith, refl, rules, sym}
use Rattle.std.proofs.lemmas.Int.{to_z-of_z}
use Rattle.std.proofs.lemmas.Result.{err_from_is_err_and}
use Rattle.std.specs.Int.{w64, cast_unsigned}
use Rattle.std.specs.Prelude.{Some}
use Rattle.process_memory.proofs.Reading.{reads_end, reads_halt, reads_next}
use Rattle.py_builtins.proofs.Consulted.{consulting_short}
use Rattle.thread_names.specs.Keys.{keyed, slot_key}
use Rattle.thread_names.proofs.keys.slot_key.Goals as goal

pub returns-in-Empty : goal.returns-in-Empty
unfolding slot_key
returns-in-Empty g c = rw c.in-Empty.is (reads_end 2 refl)

pub returns-in_err-number-in-Entry : goal.returns-in_err-number-in-Entry
unfolding slot_key
returns-in_err-number-in-Entry g c =
    let p = err_from_is_err_and c.from_residual.result c.from_residual.ensures.1 in
    rw (c.in-Entry.is, p.1)
    (reads_halt 2 p.0 _ (consulting_short c.in_err-number-in-Entry.ensures.answer) p.2.0 (omega arith))

pub returns-in_ok-number-in-Entry : goal.returns-in_ok-number-in-Entry
unfolding slot_key
returns-in_ok-number-in-Entry g c =
    let fits : FitsSigned w64 c.in_ok-number-in-Entry.number = search rules in
    let id : c.cast_unsigned-id.result ≡ cast_unsigned w64 c.in_ok-number-in-Entry.number =
    c.cast_unsigned-id.ensures ∙ ap (cast_unsigned w64) (to_z-of_z w64 c.in_ok-number-in-Entry.number fits) in
    rw c.in-Entry.is (reads_next {k = 0} 2 _ (consulting_short c.in_ok-number-in-Entry.ensures.answer)
    (reads_end 0 (ap (λ n. Some (keyed n c.in-Entry.thread)) (sym id))) (omega arith))
