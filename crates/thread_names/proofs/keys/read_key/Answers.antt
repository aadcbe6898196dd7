use Rattle.std.proofs.Common.{arith}
use Rattle.std.proofs.lemmas.Result.{err_from_is_err_and}
use Rattle.process_memory.proofs.Reading.{reads_halt, reads_next}
use Rattle.py_builtins.proofs.Consulted.{fields_short}
use Rattle.thread_names.specs.Keys.{key_at}
use Rattle.thread_names.proofs.keys.read_key.Goals as goal

pub returns-in_err-slot : goal.returns-in_err-slot
unfolding key_at
returns-in_err-slot g c =
    let p = err_from_is_err_and c.from_residual.result c.from_residual.ensures.1 in
    rw p.1 (reads_halt 4 p.0 _ (fields_short c.in_err-slot.ensures.answer) p.2.0 (omega arith))

pub returns : goal.returns
unfolding key_at
returns g c = reads_next 4 _ (fields_short c.in_ok-slot.ensures.answer) c.slot_key.ensures (omega arith)
