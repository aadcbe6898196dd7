use Rattle.std.proofs.Common.{arith}
use Rattle.std.proofs.lemmas.Result.{err_from_is_err_and}
use Rattle.process_memory.proofs.Reading.{reads_halt, reads_next}
use Rattle.py_builtins.proofs.Consulted.{consulting_short}
use Rattle.py_exceptions.specs.Entries.{entry_at}
use Rattle.py_exceptions.proofs.dict.read_entry.Goals as goal

pub returns-in_err-slots : goal.returns-in_err-slots
unfolding entry_at
returns-in_err-slots g c =
    let p = err_from_is_err_and c.from_residual.result c.from_residual.ensures.1 in
    rw p.1 (reads_halt 16386 p.0 _ (consulting_short c.in_err-slots.ensures.answer) p.2.0 (omega arith))

pub returns : goal.returns
unfolding entry_at
returns g c = reads_next 16386 _ (consulting_short c.in_ok-slots.ensures.answer) c.read_named.ensures (omega arith)
