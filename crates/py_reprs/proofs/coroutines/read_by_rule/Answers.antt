use Rattle.std.proofs.Common.{arith, ap, sym}
use Rattle.std.proofs.lemmas.Result.{err_from_is_err_and}
use Rattle.process_memory.proofs.Reading.{reads_end, reads_halt, reads_next}
use Rattle.py_builtins.specs.ObjectError.{object_fault}
use Rattle.py_reprs.proofs.Views.{tree-Coroutine}
use Rattle.py_reprs.specs.Coroutines.{coroutine_by}
use Rattle.py_reprs.proofs.coroutines.read_by_rule.Goals as goal

pub returns-in_err-name : goal.returns-in_err-name
unfolding coroutine_by
returns-in_err-name g c =
    let p = err_from_is_err_and c.from_residual.result c.from_residual.ensures.1 in
    rw p.1 (reads_halt 5 p.0 _ c.in_err-name.ensures (ap object_fault p.2) (omega arith))

pub returns-in_err-state : goal.returns-in_err-state
unfolding coroutine_by
returns-in_err-state g c =
    let p = err_from_is_err_and c.from_residual-in_err-state.result c.from_residual-in_err-state.ensures.1 in
    rw p.1 (reads_next 5 _ c.in_ok-name.ensures (reads_halt 2 p.0 _ c.in_err-state.ensures (ap object_fault p.2)
    (omega arith)) (omega arith))

pub returns : goal.returns
unfolding coroutine_by
returns g c = reads_next 5 _ c.in_ok-name.ensures (reads_next {k = 0} 2 _ c.in_ok-state.ensures
    (reads_end 0 (sym (tree-Coroutine _ _ _ _))) (omega arith)) (omega arith)
