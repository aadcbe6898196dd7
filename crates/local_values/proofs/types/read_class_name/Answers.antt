use Rattle.std.proofs.Common.{arith, ◌∙◌, ap}
use Rattle.std.proofs.lemmas.Result.{err_from_is_err_and}
use Rattle.process_memory.proofs.Reading.{reading_gives}
use Rattle.py_reprs.specs.Values.{value_cost}
use Rattle.local_values.specs.Types.{class_name, class_name_at}
use Rattle.local_values.proofs.types.read_class_name.Goals as goal

pub returns-in_err-value : goal.returns-in_err-value
unfolding value_cost
returns-in_err-value g c =
    let p = err_from_is_err_and c.from_residual.result c.from_residual.ensures.1 in
    rw p.1 (reading_gives _ _ c.in_err-value.ensures (omega arith) (λ m h. tt))

pub returns-in_err-class_name : goal.returns-in_err-class_name
unfolding value_cost
returns-in_err-class_name g c =
    let p = err_from_is_err_and c.from_residual-in_err-class_name.result c.from_residual-in_err-class_name.ensures.1 in
    rw p.1 (reading_gives _ _ c.in_ok-value.ensures (omega arith) (λ m h. tt))

pub returns : goal.returns
unfolding class_name_at value_cost
returns g c =
    reading_gives _ _ c.in_ok-value.ensures (omega arith) (λ m h. c.in_ok-class_name.ensures ∙ ap class_name h)
