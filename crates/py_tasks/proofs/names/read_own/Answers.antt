use Rattle.std.proofs.Common.{arith}
use Rattle.std.proofs.lemmas.Result.{err_from_is_err_and}
use Rattle.process_memory.proofs.Reading.{reading_short, reads_halt, reads_next}
use Rattle.py_builtins.proofs.Consulted.{consulting_short}
use Rattle.py_tasks.specs.Names.{own_name_at}
use Rattle.py_tasks.proofs.names.read_own.Goals as goal

pub returns-in_err-at : goal.returns-in_err-at
unfolding own_name_at
returns-in_err-at g c =
    let p = err_from_is_err_and c.from_residual.result c.from_residual.ensures.1 in
    rw p.1 (reads_halt 5 p.0 _ (reading_short c.in_err-at.ensures.answer) p.2.0 (omega arith))

pub returns-in_err-class : goal.returns-in_err-class
unfolding own_name_at
returns-in_err-class g c =
    let p = err_from_is_err_and c.from_residual-in_err-class.result c.from_residual-in_err-class.ensures.1 in
    rw p.1 (reads_next 5 _ (reading_short c.in_ok-at.ensures.answer)
    (reads_halt 4 p.0 _ (consulting_short c.in_err-class.ensures) p.2.0 (omega arith)) (omega arith))

pub returns : goal.returns
unfolding own_name_at
returns g c = (reads_next 5 _ (reading_short c.in_ok-at.ensures.answer)
    (reads_next 4 _ (consulting_short c.in_ok-class.ensures) c.read_typed.ensures (omega arith)) (omega arith))
