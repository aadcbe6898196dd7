use Rattle.std.proofs.Common.{arith}
use Rattle.std.proofs.lemmas.Result.{err_from_is_err_and}
use Rattle.process_memory.proofs.Reading.{reading_short, reads_halt, reads_next}
use Rattle.py_exceptions.specs.Owners.{owner_found_at}
use Rattle.py_exceptions.proofs.owner.read_found.Goals as goal

pub returns-in_err-own : goal.returns-in_err-own
unfolding owner_found_at
returns-in_err-own g c =
    let p = err_from_is_err_and c.from_residual.result c.from_residual.ensures.1 in
    rw p.1 (reads_halt 129 p.0 _ (reading_short c.in_err-own.ensures.answer) p.2.0 (omega arith))

pub returns : goal.returns
unfolding owner_found_at
returns g c = reads_next 129 _ (reading_short c.in_ok-own.ensures.answer) c.owner_from.ensures (omega arith)
