use Rattle.std.proofs.Common.{ap, arith, sym}
use Rattle.std.proofs.lemmas.Result.{err_from_is_err_and}
use Rattle.process_memory.proofs.Reading.{reads_end, reads_halt, reads_next}
use Rattle.py_builtins.proofs.Consulted.{consulting_short}
use Rattle.std.proofs.Common.{FitsSigned, ◌≡◌, ◌∙◌, rules}
use Rattle.std.specs.Int.{w64, cast_unsigned}
use Rattle.std.proofs.lemmas.Int.{to_z-of_z}
use Rattle.py_tasks.specs.Names.{number_at, number_or}
use Rattle.py_tasks.proofs.names.read_number.Goals as goal

pub returns-in_err-number : goal.returns-in_err-number
unfolding number_at
returns-in_err-number g c =
    let p = err_from_is_err_and c.from_residual.result c.from_residual.ensures.1 in
    rw p.1 (reads_halt 2 p.0 _ (consulting_short c.in_err-number.ensures.answer) p.2.0 (omega arith))

pub returns : goal.returns
unfolding number_at
returns g c =
    let fits : FitsSigned w64 c.in_ok-number.number = search rules in
    let id : c.cast_unsigned.result ≡ cast_unsigned w64 c.in_ok-number.number = c.cast_unsigned.ensures ∙ ap
    (cast_unsigned w64) (to_z-of_z w64 c.in_ok-number.number fits) in
    reads_next {k = 0} 2 _ (consulting_short c.in_ok-number.ensures.answer)
    (reads_end 0 (sym (c.number_or.ensures ∙ ap (number_or c.in_ok-number.is_long) id))) (omega arith)
