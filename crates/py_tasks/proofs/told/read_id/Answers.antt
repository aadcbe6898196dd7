use Rattle.std.proofs.Common.{ap, arith, refl, sym}
use Rattle.std.proofs.lemmas.Result.{err_from_is_err_and}
use Rattle.process_memory.proofs.Reading.{reads_end, reads_halt, reads_next}
use Rattle.py_builtins.proofs.Consulted.{consulting_short}
use Rattle.std.proofs.Common.{FitsSigned, ◌≡◌, ◌∙◌, rules}
use Rattle.std.specs.Int.{w64, cast_unsigned}
use Rattle.std.proofs.lemmas.Int.{to_z-of_z}
use Rattle.py_tasks.specs.Told.{thread_number_at}
use Rattle.std.specs.Prelude.{Some}
use Rattle.py_tasks.proofs.told.read_id.Goals as goal

pub returns-in-None : goal.returns-in-None
unfolding thread_number_at
returns-in-None g c = rw c.in-None.is (reads_end 2 refl)

pub returns-in_err-id-in-Some : goal.returns-in_err-id-in-Some
unfolding thread_number_at
returns-in_err-id-in-Some g c =
    let p = err_from_is_err_and c.from_residual.result c.from_residual.ensures.1 in
    rw (c.in-Some.is, p.1) (reads_halt 2 p.0 _ (consulting_short c.in_err-id-in-Some.ensures.answer) p.2.0
    (omega arith))

pub returns-in_ok-id-in-Some : goal.returns-in_ok-id-in-Some
unfolding thread_number_at
returns-in_ok-id-in-Some g c =
    let fits : FitsSigned w64 c.in_ok-id-in-Some.id = search rules in
    let id : c.cast_unsigned.result ≡ cast_unsigned w64 c.in_ok-id-in-Some.id = c.cast_unsigned.ensures ∙ ap
    (cast_unsigned w64) (to_z-of_z w64 c.in_ok-id-in-Some.id fits) in
    rw c.in-Some.is (reads_next {k = 0} 2 _ (consulting_short c.in_ok-id-in-Some.ensures.answer)
    (reads_end 0 (ap Some (sym id))) (omega arith))
