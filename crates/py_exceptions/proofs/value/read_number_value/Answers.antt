use Rattle.std.proofs.Common.{◌≡◌, ◌∙◌, ap, arith, of_z, rules, sym, to_z}
use Rattle.std.specs.Int.{w64}
use Rattle.std.proofs.lemmas.Int.{to_z-of_z}
use Rattle.std.specs.Prelude.{Some}
use Rattle.std.proofs.lemmas.Result.{err_from_is_err_and}
use Rattle.process_memory.proofs.Reading.{reads_end, reads_halt, reads_next}
use Rattle.py_builtins.proofs.Consulted.{consulting_short}
use Rattle.py_exceptions.specs.Values.{number_value, number_value_at}
use Rattle.py_exceptions.proofs.value.read_number_value.Goals as goal

pub returns-in_err-number : goal.returns-in_err-number
unfolding number_value_at
returns-in_err-number g c =
    let p = err_from_is_err_and c.from_residual.result c.from_residual.ensures.1 in
    rw p.1 (reads_halt 2 p.0 _ (consulting_short c.in_err-number.ensures.answer) p.2.0 (omega arith))

pub returns : goal.returns
unfolding number_value_at
returns g c =
    let id : to_z w64 (of_z w64 c.in_ok-number.number) ≡ c.in_ok-number.number = to_z-of_z w64 _ (search rules) in
    let is = c.number_value.ensures
    ∙ ap (λ z. number_value c.args.addr c.args.is_truth z c.in_ok-number.is_long) id in
    reads_next {k = 0} 2 _ (consulting_short c.in_ok-number.ensures.answer) (reads_end 0 (ap Some (sym is)))
    (omega arith)
