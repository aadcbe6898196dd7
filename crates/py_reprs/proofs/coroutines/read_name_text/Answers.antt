use Rattle.std.proofs.Common.{arith}
use Rattle.std.proofs.lemmas.Result.{err_from_is_err_and}
use Rattle.process_memory.proofs.Reading.{reading_short, reads_halt, reads_next}
use Rattle.py_builtins.proofs.Consulted.{consulting_short}
use Rattle.py_reprs.specs.Coroutines.{name_text_at}
use Rattle.py_reprs.proofs.coroutines.read_name_text.Goals as goal

pub returns-in_err-at : goal.returns-in_err-at
unfolding name_text_at
returns-in_err-at g c =
    let p = err_from_is_err_and c.from_residual.result c.from_residual.ensures.1 in
    rw p.1 (reads_halt 3 p.0 _ (reading_short c.in_err-at.ensures.answer) p.2 (omega arith))

pub returns : goal.returns
unfolding name_text_at
returns g c = reads_next 3 _ (reading_short c.in_ok-at.ensures.answer)
    (consulting_short c.copy_string.ensures.answer) (omega arith)
