use Rattle.std.proofs.Common.{arith, refl}
use Rattle.std.proofs.lemmas.Result.{err_from_is_err_and}
use Rattle.process_memory.proofs.Reading.{reads_end, reads_halt, reads_next}
use Rattle.py_builtins.proofs.Consulted.{consulting_short}
use Rattle.py_tasks.specs.Names.{text_name_at}
use Rattle.py_tasks.proofs.names.read_text.Goals as goal

pub returns-in_err-text : goal.returns-in_err-text
unfolding text_name_at
returns-in_err-text g c =
    let p = err_from_is_err_and c.from_residual.result c.from_residual.ensures.1 in
    rw p.1 (reads_halt 2 p.0 _ (consulting_short c.in_err-text.ensures.answer) p.2.0 (omega arith))

pub returns : goal.returns
unfolding text_name_at
returns g c = (reads_next 2 _ (consulting_short c.in_ok-text.ensures.answer) (reads_end 0 refl) (omega arith))
