use Rattle.std.proofs.Common.{arith, ap}
use Rattle.std.proofs.lemmas.Result.{err_from_is_err_and}
use Rattle.process_memory.proofs.Reading.{reads_halt, reads_next}
use Rattle.py_builtins.proofs.Consulted.{consulting_short}
use Rattle.py_builtins.specs.ObjectError.{object_fault}
use Rattle.py_reprs.specs.Levels.{items_level_at}
use Rattle.py_reprs.proofs.levels.read_sequence.Goals as goal

pub returns-in_err-items-clause-answer : goal.returns-in_err-items-clause-answer
unfolding items_level_at
returns-in_err-items-clause-answer g c =
    let p = err_from_is_err_and c.from_residual.result c.from_residual.ensures.1 in
    rw p.1 (reads_halt _ p.0 _ (consulting_short c.in_err-items.ensures) (ap object_fault p.2) (omega arith))

pub returns-clause-answer : goal.returns-clause-answer
unfolding items_level_at
returns-clause-answer g c =
    reads_next _ _ (consulting_short c.in_ok-items.ensures) c.read_row.ensures.answer (omega arith)
