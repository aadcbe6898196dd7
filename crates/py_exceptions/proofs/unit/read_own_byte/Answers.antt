use Rattle.std.proofs.Common.{◌∙◌, ap, arith, sym}
use Rattle.std.specs.Prelude.{Some}
use Rattle.std.proofs.lemmas.Result.{err_from_is_err_and}
use Rattle.process_memory.proofs.Reading.{reading_short, reads_end, reads_halt, reads_next}
use Rattle.py_builtins.specs.declared.coding.TextKind.TheVariants.{Latin1}
use Rattle.py_exceptions.specs.declared.unit.Unit.TheVariants.{Is}
use Rattle.py_exceptions.specs.Units.{number_in, own_byte_at}
use Rattle.py_exceptions.proofs.unit.read_own_byte.Goals as goal

pub returns-in_err-bytes : goal.returns-in_err-bytes
unfolding own_byte_at
returns-in_err-bytes g c =
    let p = err_from_is_err_and c.from_residual.result c.from_residual.ensures.1 in
    rw p.1 (reads_halt 1 p.0 _ (reading_short c.in_err-bytes.ensures.answer) p.2.0 (omega arith))

pub returns : goal.returns
unfolding own_byte_at
returns g c =
    let is = c.number_in.ensures ∙ ap (λ bs. number_in Latin1 bs) c.deref.ensures.value in
    reads_next {k = 0} 1 _ (reading_short c.in_ok-bytes.ensures.answer) (reads_end 0 (ap (λ n. Some (Is n)) (sym is)))
    (omega arith)
