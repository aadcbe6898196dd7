use Rattle.std.proofs.Common.{ap, arith, refl}
use Rattle.std.proofs.lemmas.Result.{err_from_is_err_and}
use Rattle.process_memory.proofs.Reading.{reads_next, reads_halt, reads_end, reads_known}
use Rattle.py_builtins.specs.ObjectError.{object_fault}
use Rattle.py_builtins.specs.Consulted.IsWidth.{Word}
use Rattle.py_builtins.proofs.Consulted.{reads_field}
use Rattle.instance_dicts.specs.Forms.{as_address, values_with}
use Rattle.instance_dicts.proofs.forms.values_with.Goals as goal

pub returns-in_err-values : goal.returns-in_err-values
unfolding values_with
returns-in_err-values g c =
    let p = err_from_is_err_and c.from_residual.result c.from_residual.ensures.1 in
    rw p.1 (reads_halt 1 p.0 _ (reads_known 1 (λ m. as_address c.args.values) _ (λ m. c.in_err-values.ensures))
    (ap object_fault p.2) (omega arith))

pub returns-in_err-keys : goal.returns-in_err-keys
unfolding values_with
returns-in_err-keys g c =
    let p = err_from_is_err_and c.from_residual-in_err-keys.result c.from_residual-in_err-keys.ensures.1 in
    rw p.1 (reads_next 1 _ (reads_known 0 (λ m. as_address c.args.values) _ (λ m. c.in_ok-values.ensures))
    (reads_halt 1 p.0 _ (reads_field Word c.in_err-keys.ensures.answer) p.2 (omega arith)) (omega arith))

pub returns : goal.returns
unfolding values_with
returns g c = reads_next 1 _ (reads_known 0 (λ m. as_address c.args.values) _ (λ m. c.in_ok-values.ensures))
    (reads_next 1 _ (reads_field Word c.in_ok-keys.ensures.answer) (reads_end 0 refl) (omega arith)) (omega arith)
