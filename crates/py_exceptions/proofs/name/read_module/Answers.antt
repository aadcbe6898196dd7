use Rattle.std.proofs.Common.{ap, arith}
use Rattle.std.proofs.lemmas.Result.{err_from_is_err_and}
use Rattle.process_memory.proofs.Reading.{reading_short, reads_halt, reads_next}
use Rattle.py_names.specs.NamesError.{names_fault}
use Rattle.py_exceptions.specs.ClassNames.{module_at}
use Rattle.py_exceptions.proofs.name.read_module.Goals as goal

pub returns-in_err-dict : goal.returns-in_err-dict
unfolding module_at
returns-in_err-dict g c =
    let p = err_from_is_err_and c.from_residual.result c.from_residual.ensures.1 in
    rw p.1 (reads_halt 16389 p.0 _ (reading_short c.in_err-dict.ensures.answer) p.2.0 (omega arith))

pub returns-in_err-found : goal.returns-in_err-found
unfolding module_at
returns-in_err-found g c =
    let p = err_from_is_err_and c.from_residual-in_err-found.result c.from_residual-in_err-found.ensures.1 in
    rw p.1 (reads_next 16389 _ (reading_short c.in_ok-dict.ensures.answer)
    (reads_halt 16386 p.0 _ c.in_err-found.ensures (ap names_fault p.2) (omega arith)) (omega arith))

pub returns : goal.returns
unfolding module_at
returns g c = reads_next 16389 _ (reading_short c.in_ok-dict.ensures.answer)
    (reads_next 16388 _ c.in_ok-found.ensures c.read_found_text.ensures (omega arith)) (omega arith)
