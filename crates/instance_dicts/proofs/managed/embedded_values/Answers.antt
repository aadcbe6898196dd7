use Rattle.std.proofs.Common.{arith}
use Rattle.std.proofs.lemmas.Result.{err_from_is_err_and}
use Rattle.process_memory.proofs.Reading.{reads_next, reads_halt}
use Rattle.py_builtins.specs.Consulted.IsWidth.{Word}
use Rattle.py_builtins.proofs.Consulted.{reads_field}
use Rattle.instance_dicts.specs.Managed.{embedded_values_at}
use Rattle.instance_dicts.proofs.managed.embedded_values.Goals as goal

pub returns-in_err-size : goal.returns-in_err-size
unfolding embedded_values_at
returns-in_err-size g c =
    let p = err_from_is_err_and c.from_residual.result c.from_residual.ensures.1 in
    rw p.1 (reads_halt 3 p.0 _ (reads_field Word c.in_err-size.ensures.answer) p.2 (omega arith))

pub returns-in_err-header : goal.returns-in_err-header
unfolding embedded_values_at
returns-in_err-header g c =
    let p = err_from_is_err_and c.from_residual-in_err-header.result c.from_residual-in_err-header.ensures.1 in
    rw p.1 (reads_next 3 _ (reads_field Word c.in_ok-size.ensures.answer)
    (reads_halt 2 p.0 _ (reads_field Word c.in_err-header.ensures.answer) p.2 (omega arith)) (omega arith))

pub returns : goal.returns
unfolding embedded_values_at
returns g c =
    reads_next 3 _ (reads_field Word c.in_ok-size.ensures.answer)
    (reads_next 2 _ (reads_field Word c.in_ok-header.ensures.answer)
    c.valid_values.ensures (omega arith)) (omega arith)
