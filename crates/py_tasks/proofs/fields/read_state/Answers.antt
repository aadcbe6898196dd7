use Rattle.std.proofs.Common.{arith, sym}
use Rattle.std.proofs.lemmas.Result.{err_from_is_err_and}
use Rattle.process_memory.proofs.Reading.{reading_short, reads_end, reads_halt, reads_next}
use Rattle.py_tasks.specs.Fields.{state_at}
use Rattle.py_tasks.proofs.fields.read_state.Goals as goal

pub returns-in_err-word : goal.returns-in_err-word
unfolding state_at
returns-in_err-word g c =
    let p = err_from_is_err_and c.from_residual.result c.from_residual.ensures.1 in
    rw p.1 (reads_halt 1 p.0 _ (reading_short c.in_err-word.ensures.answer) p.2.0 (omega arith))

pub returns : goal.returns
unfolding state_at
returns g c = (reads_next 1 _ (reading_short c.in_ok-word.ensures.answer) (reads_end 0 (sym c.state_of.ensures))
    (omega arith))
