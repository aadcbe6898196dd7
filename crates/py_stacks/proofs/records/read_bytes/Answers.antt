use Rattle.std.proofs.lemmas.Result.{err_from_is_err_and}
use Rattle.process_memory.proofs.Reading.{reading_none}
use Rattle.py_stacks.proofs.records.read_bytes.Goals as goal

pub returns-in_err-resize-clause-answer : goal.returns-in_err-resize-clause-answer
returns-in_err-resize-clause-answer g c =
    let p = err_from_is_err_and c.from_residual.result c.from_residual.ensures.1 in
    rw (p.1, p.2) (reading_none _ _ _ (λ m. record { is = tt }))
