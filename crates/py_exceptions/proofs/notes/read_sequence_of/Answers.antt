use Rattle.std.proofs.Common.{arith, sym}
use Rattle.std.proofs.lemmas.Result.{err_from_is_err_and}
use Rattle.process_memory.proofs.Reading.{reads_end, reads_halt, reads_next}
use Rattle.py_builtins.proofs.Consulted.{consulting_short}
use Rattle.py_exceptions.specs.Notes.{sequence_found_at}
use Rattle.py_exceptions.proofs.notes.read_sequence_of.Goals as goal

pub returns-in_err-class : goal.returns-in_err-class
unfolding sequence_found_at
returns-in_err-class g c =
    let p = err_from_is_err_and c.from_residual.result c.from_residual.ensures.1 in
    rw p.1 (reads_halt 2 p.0 _ (consulting_short c.in_err-class.ensures) p.2.0 (omega arith))

pub returns : goal.returns
unfolding sequence_found_at
returns g c = reads_next {k = 0} 2 _ (consulting_short c.in_ok-class.ensures) (reads_end 0 (sym c.sequence_of.ensures))
    (omega arith)
