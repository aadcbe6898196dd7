use Rattle.std.proofs.Common.{sym, ap, arith}
use Rattle.std.proofs.lemmas.Result.{err_from_is_err_and}
use Rattle.process_memory.proofs.Reading.{reads_next, reads_halt, reads_end}
use Rattle.py_builtins.specs.ObjectError.{object_fault}
use Rattle.instance_dicts.specs.Attributes.{dict_attributes_at, told}
use Rattle.instance_dicts.proofs.attributes.dict_attributes.Goals as goal

pub returns-in-None : goal.returns-in-None
unfolding dict_attributes_at
returns-in-None g c = rw c.in-None.is (reads_end _ (ap (λ xs. told xs 0) (sym c.new.ensures.items)))

pub returns-in_err-slots-in-Dict : goal.returns-in_err-slots-in-Dict
unfolding dict_attributes_at
returns-in_err-slots-in-Dict g c =
    let p = err_from_is_err_and c.from_residual.result c.from_residual.ensures.1 in
    rw (p.1, c.in-Dict.is) (reads_halt _ p.0 _ c.in_err-slots-in-Dict.ensures.answer (ap object_fault p.2)
    (omega arith))

pub returns-in_ok-slots-in-Dict : goal.returns-in_ok-slots-in-Dict
unfolding dict_attributes_at
returns-in_ok-slots-in-Dict g c =
    rw c.in-Dict.is (reads_next _ _ c.in_ok-slots-in-Dict.ensures.answer c.told_by.ensures (omega arith))

pub returns-in_err-shared-in-Values : goal.returns-in_err-shared-in-Values
unfolding dict_attributes_at
returns-in_err-shared-in-Values g c =
    let p =
    err_from_is_err_and c.from_residual-in_err-shared-in-Values.result
    c.from_residual-in_err-shared-in-Values.ensures.1 in
    rw (p.1, c.in-Values.is) (reads_halt _ p.0 _ c.in_err-shared-in-Values.ensures.answer (ap object_fault p.2)
    (omega arith))

pub returns-in_ok-shared-in-Values : goal.returns-in_ok-shared-in-Values
unfolding dict_attributes_at
returns-in_ok-shared-in-Values g c =
    rw c.in-Values.is (reads_next _ _ c.in_ok-shared-in-Values.ensures.answer c.told_by-in-Values.ensures (omega arith))
