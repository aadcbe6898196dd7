use Rattle.std.proofs.Common.{ap, arith}
use Rattle.std.proofs.lemmas.Result.{err_from_is_err_and}
use Rattle.process_memory.proofs.Reading.{reads_halt, reads_next}
use Rattle.py_builtins.proofs.Consulted.{consulting_short}
use Rattle.py_names.specs.NamesError.{names_fault}
use Rattle.task_sets.specs.Roots.{roots_at}
use Rattle.task_sets.proofs.roots.read_roots.Goals as goal

pub returns-in_err-dict : goal.returns-in_err-dict
unfolding roots_at
returns-in_err-dict g c =
    let p = err_from_is_err_and c.from_residual.result c.from_residual.ensures.1 in
    rw p.1 (reads_halt 1572871 p.0 _ (consulting_short c.in_err-dict.ensures.answer) p.2.0 (omega arith))

pub returns-in_err-found : goal.returns-in_err-found
unfolding roots_at
returns-in_err-found g c =
    let p = err_from_is_err_and c.from_residual-in_err-found.result c.from_residual-in_err-found.ensures.1 in
    rw p.1 (reads_next 1572871 _ (consulting_short c.in_ok-dict.ensures.answer) (reads_halt 1572869 p.0 _
    c.in_err-found.ensures (ap names_fault p.2) (omega arith)) (omega arith))

pub returns : goal.returns
unfolding roots_at
returns g c = (reads_next 1572871 _ (consulting_short c.in_ok-dict.ensures.answer) (reads_next 1572869 _
    c.in_ok-found.ensures c.read_module.ensures (omega arith)) (omega arith))
