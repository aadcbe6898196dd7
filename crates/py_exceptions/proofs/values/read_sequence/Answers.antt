use Rattle.std.proofs.Common.{arith, refl}
use Rattle.std.proofs.lemmas.Result.{err_from_is_err_and}
use Rattle.process_memory.proofs.Reading.{reads_end, reads_halt, reads_next}
use Rattle.py_builtins.proofs.Consulted.{consulting_short}
use Rattle.py_exceptions.specs.ValueLists.{items_found_at}
use Rattle.py_exceptions.proofs.values.read_sequence.Goals as goal

pub returns-in_err-items : goal.returns-in_err-items
unfolding items_found_at
returns-in_err-items g c =
    let p = err_from_is_err_and c.from_residual.result c.from_residual.ensures.1 in
    rw p.1 (reads_halt 1 p.0 _ (consulting_short c.in_err-items.ensures) p.2.0 (omega arith))

pub returns : goal.returns
unfolding items_found_at
returns g c = reads_next {k = 0} 1 _ (consulting_short c.in_ok-items.ensures) (reads_end 0 refl) (omega arith)
