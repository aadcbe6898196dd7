use Rattle.std.proofs.Common.{arith, refl}
use Rattle.std.proofs.lemmas.Result.{err_from_is_err_and}
use Rattle.process_memory.proofs.Reading.{reading_gives}
use Rattle.py_exceptions.specs.ClassNames.{heap_name_at}
use Rattle.py_exceptions.proofs.Tells.{reading_and, reads_or_none}
use Rattle.py_exceptions.proofs.name.read_heap_name.Goals as goal

pub returns-in_err-module : goal.returns-in_err-module
returns-in_err-module g c =
    let p = err_from_is_err_and c.from_residual-in_err-module.result c.from_residual-in_err-module.ensures.1 in
    rw p.1 (reading_gives _ _ (reading_and c.read_qualname-qualname.ensures c.read_module-found.ensures) (omega arith)
    (λ m h. tt))

pub returns : goal.returns
unfolding heap_name_at
returns g c = reading_gives _ _
    (reading_and (reads_or_none _ c.read_qualname-qualname.ensures c.in_ok-name.ensures)
    (reads_or_none _ c.read_module-found.ensures c.in_ok-module.ensures)) (omega arith)
    (λ m h. rw (h.0, h.1) refl)
