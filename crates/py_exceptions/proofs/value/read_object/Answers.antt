use Rattle.std.proofs.Common.{arith}
use Rattle.std.proofs.lemmas.Result.{err_from_is_err_and}
use Rattle.process_memory.proofs.Reading.{reads_halt, reads_next}
use Rattle.py_builtins.proofs.Consulted.{consulting_short}
use Rattle.py_exceptions.specs.Values.{value_at}
use Rattle.py_exceptions.proofs.value.read_object.Goals as goal

pub returns-in_err-class : goal.returns-in_err-class
unfolding value_at
returns-in_err-class g c =
    let p = err_from_is_err_and c.from_residual.result c.from_residual.ensures.1 in
    rw p.1 (reads_halt 5 p.0 _ (consulting_short c.in_err-class.ensures) p.2.0 (omega arith))

pub returns : goal.returns
unfolding value_at
returns g c = reads_next 5 _ (consulting_short c.in_ok-class.ensures) c.read_typed.ensures (omega arith)
