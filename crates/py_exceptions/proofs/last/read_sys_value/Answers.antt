use Rattle.std.proofs.Common.{ap, arith}
use Rattle.std.proofs.lemmas.Result.{err_from_is_err_and}
use Rattle.process_memory.proofs.Reading.{reading_short, reads_halt, reads_next}
use Rattle.py_names.specs.NamesError.{names_fault}
use Rattle.py_exceptions.specs.Last.{sys_value_at}
use Rattle.py_exceptions.proofs.last.read_sys_value.Goals as goal

pub returns-in_err-modules : goal.returns-in_err-modules
unfolding sys_value_at
returns-in_err-modules g c =
    let p = err_from_is_err_and c.from_residual.result c.from_residual.ensures.1 in
    rw p.1 (reads_halt 32776 p.0 _ (reading_short c.in_err-modules.ensures.answer) p.2.0 (omega arith))

pub returns-in_err-found : goal.returns-in_err-found
unfolding sys_value_at
returns-in_err-found g c =
    let p = err_from_is_err_and c.from_residual-in_err-found.result c.from_residual-in_err-found.ensures.1 in
    rw p.1 (reads_next 32776 _ (reading_short c.in_ok-modules.ensures.answer)
    (reads_halt 16386 p.0 _ c.in_err-found.ensures (ap names_fault p.2) (omega arith)) (omega arith))

pub returns : goal.returns
unfolding sys_value_at
returns g c =
    reads_next 32776 _ (reading_short c.in_ok-modules.ensures.answer)
    (reads_next 32775 _ c.in_ok-found.ensures c.read_attribute.ensures (omega arith)) (omega arith)
