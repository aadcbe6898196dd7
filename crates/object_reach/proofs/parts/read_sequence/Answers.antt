use Rattle.std.proofs.Common.{refl, ap, arith}
use Rattle.std.proofs.lemmas.Result.{err_from_is_err_and}
use Rattle.process_memory.proofs.Reading.{reads_end, reads_halt, reads_next}
use Rattle.py_builtins.specs.ObjectError.{object_fault}
use Rattle.object_reach.specs.Objects.{item_parts}
use Rattle.py_builtins.proofs.Consulted.{consulting_short}
use Rattle.object_reach.proofs.parts.read_sequence.Goals as goal

pub returns-in_err-items : goal.returns-in_err-items
unfolding item_parts
returns-in_err-items g c =
    let p = err_from_is_err_and c.from_residual.result c.from_residual.ensures.1 in
    rw p.1 (reads_halt 1 p.0 _ (consulting_short c.in_err-items.ensures) (ap object_fault p.2) (omega arith))

pub returns : goal.returns
unfolding item_parts
returns g c = reads_next 1 _ (consulting_short c.in_ok-items.ensures) (reads_end 0 refl) (omega arith)
