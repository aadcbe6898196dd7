use Rattle.std.proofs.Common.{arith}
use Rattle.std.proofs.lemmas.Result.{err_from_is_err_and}
use Rattle.process_memory.proofs.Reading.{reads_next, reads_halt}
use Rattle.py_builtins.specs.Consulted.IsWidth.{Word}
use Rattle.py_builtins.proofs.Consulted.{reads_field}
use Rattle.instance_dicts.specs.Managed.{values_and_dict_at}
use Rattle.instance_dicts.proofs.managed.values_and_dict.Goals as goal

pub returns-in_err-values : goal.returns-in_err-values
unfolding values_and_dict_at
returns-in_err-values g c =
    let p = err_from_is_err_and c.from_residual.result c.from_residual.ensures.1 in
    rw p.1 (reads_halt 3 p.0 _ (reads_field Word c.in_err-values.ensures.answer) p.2 (omega arith))

pub returns-in_err-dict : goal.returns-in_err-dict
unfolding values_and_dict_at
returns-in_err-dict g c =
    let p = err_from_is_err_and c.from_residual-in_err-dict.result c.from_residual-in_err-dict.ensures.1 in
    rw p.1 (reads_next 3 _ (reads_field Word c.in_ok-values.ensures.answer)
    (reads_halt 2 p.0 _ (reads_field Word c.in_err-dict.ensures.answer) p.2 (omega arith)) (omega arith))

pub returns : goal.returns
unfolding values_and_dict_at
returns g c =
    reads_next 3 _ (reads_field Word c.in_ok-values.ensures.answer)
    (reads_next 2 _ (reads_field Word c.in_ok-dict.ensures.answer)
    c.held_apart.ensures (omega arith)) (omega arith)
