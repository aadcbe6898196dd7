use Rattle.std.proofs.Common.{ap, arith, sym}
use Rattle.std.proofs.lemmas.Result.{err_from_is_err_and}
use Rattle.process_memory.proofs.Reading.{reads_end, reads_halt, reads_next}
use Rattle.py_names.specs.NamesError.{names_fault}
use Rattle.py_tasks.specs.Entries.{other_at}
use Rattle.py_tasks.proofs.entries.read_other.Goals as goal

pub returns-in_err-class : goal.returns-in_err-class
unfolding other_at
returns-in_err-class g c =
    let p = err_from_is_err_and c.from_residual.result c.from_residual.ensures.1 in
    rw p.1 (reads_halt 3 p.0 _ c.in_err-class.ensures (ap names_fault p.2) (omega arith))

pub returns : goal.returns
unfolding other_at
returns g c = (reads_next 3 _ c.in_ok-class.ensures (reads_end 0 (sym c.other_by.ensures)) (omega arith))
