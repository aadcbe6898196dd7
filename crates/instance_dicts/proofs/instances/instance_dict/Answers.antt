use Rattle.std.proofs.Common.{ap, arith}
use Rattle.std.proofs.lemmas.Result.{err_from_is_err_and}
use Rattle.process_memory.proofs.Reading.{reads_next, reads_halt}
use Rattle.py_builtins.specs.ObjectError.{object_fault}
use Rattle.py_builtins.proofs.Consulted.{consults_fields}
use Rattle.instance_dicts.specs.Instances.{instance_dict_at}
use Rattle.instance_dicts.proofs.instances.instance_dict.Goals as goal

pub returns-in_err-class : goal.returns-in_err-class
unfolding instance_dict_at
returns-in_err-class g c =
    let p = err_from_is_err_and c.from_residual.result c.from_residual.ensures.1 in
    rw p.1 (reads_halt 6 p.0 _ c.in_err-class.ensures (ap object_fault p.2) (omega arith))

pub returns : goal.returns
unfolding instance_dict_at
returns g c =
    reads_next 6 _ c.in_ok-class.ensures
    (consults_fields c.args.layout.now c.dict_of_class.ensures) (omega arith)
