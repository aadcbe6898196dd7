use Rattle.std.proofs.Common.{ap, arith}
use Rattle.std.proofs.lemmas.Result.{err_from_is_err_and}
use Rattle.process_memory.proofs.Reading.{reads_halt, reads_known, reads_next}
use Rattle.py_builtins.proofs.Consulted.{consulting_short}
use Rattle.py_names.specs.NamesError.{names_fault}
use Rattle.thread_names.specs.Own.{found_or_more, named_by_rule}
use Rattle.thread_names.proofs.own.named_by_rule.Goals as goal

pub returns-in_err-dict : goal.returns-in_err-dict
unfolding named_by_rule
returns-in_err-dict g c =
    let p = err_from_is_err_and c.from_residual.result c.from_residual.ensures.1 in
    rw p.1 (reads_halt 1033 p.0 _ (consulting_short c.in_err-dict.ensures) p.2.0 (omega arith))

pub returns-in_err-told : goal.returns-in_err-told
unfolding named_by_rule
returns-in_err-told g c =
    let p = err_from_is_err_and c.from_residual-in_err-told.result c.from_residual-in_err-told.ensures.1 in
    rw p.1 (reads_next 1033 _ (consulting_short c.in_ok-dict.ensures)
    (reads_halt 515 p.0 _ (consulting_short c.in_err-told.ensures) p.2.0 (omega arith)) (omega arith))

pub returns-in_err-found : goal.returns-in_err-found
unfolding named_by_rule
returns-in_err-found g c =
    let p = err_from_is_err_and c.from_residual-in_err-found.result c.from_residual-in_err-found.ensures.1 in
    let found = rw c.deref.ensures.value at c.in_err-found.ensures in
    rw p.1 (reads_next 1033 _ (consulting_short c.in_ok-dict.ensures)
    (reads_next 1027 _ (consulting_short c.in_ok-told.ensures) (reads_halt 512 p.0 _ found (ap names_fault p.2) (omega arith))
    (omega arith)) (omega arith))

pub returns : goal.returns
unfolding named_by_rule
returns g c =
    let found = rw c.deref.ensures.value at c.in_ok-found.ensures in
    reads_next 1033 _ (consulting_short c.in_ok-dict.ensures)
    (reads_next 1027 _ (consulting_short c.in_ok-told.ensures) (reads_next 512 _ found
    (reads_known 0 (λ m. found_or_more c.in_ok-found.found c.in_ok-told.told.left) _ (λ m. c.found_or_more.ensures))
    (omega arith)) (omega arith)) (omega arith)
