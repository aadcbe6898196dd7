use Rattle.std.proofs.Common.{arith, ap, refl}
use Rattle.std.proofs.lemmas.Result.{err_from_is_err_and}
use Rattle.process_memory.proofs.Reading.{reads_end, reads_halt, reads_next}
use Rattle.py_builtins.specs.ObjectError.{object_fault}
use Rattle.py_reprs.specs.Levels.{coroutine_level_at}
use Rattle.py_reprs.proofs.levels.read_coroutine_level.Goals as goal

pub returns-in_err-value-clause-answer : goal.returns-in_err-value-clause-answer
unfolding coroutine_level_at
returns-in_err-value-clause-answer g c =
    let p = err_from_is_err_and c.from_residual.result c.from_residual.ensures.1 in
    rw p.1 (reads_halt _ p.0 _ c.in_err-value.ensures (ap object_fault p.2) (omega arith))

pub returns-clause-answer : goal.returns-clause-answer
unfolding coroutine_level_at
returns-clause-answer g c = reads_next {k = 0} _ _ c.in_ok-value.ensures (reads_end 0 refl) (omega arith)
