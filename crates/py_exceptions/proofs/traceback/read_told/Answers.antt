use Rattle.std.proofs.Common.{arith}
use Rattle.std.proofs.lemmas.Result.{err_from_is_err_and}
use Rattle.process_memory.proofs.Reading.{reading_gives}
use Rattle.thread_exceptions.specs.Turns.{end_of}
use Rattle.py_exceptions.proofs.Tells.{reading_and}
use Rattle.py_exceptions.proofs.TracebackSteps.{few_first, few_last, told_is}
use Rattle.py_exceptions.proofs.traceback.read_told.Goals as goal

pub returns-in_err-last : goal.returns-in_err-last
returns-in_err-last g c =
    let p = err_from_is_err_and c.from_residual-in_err-last.result c.from_residual-in_err-last.ensures.1 in
    let first = few_first c.args.members.now c.first_count-count.result c.first_count-count.ensures.few in
    let last = few_last c.args.members.now c.first_count-count.result c.first_count-told.result
    c.first_count-told.ensures.few in
    rw p.1 (reading_gives 2560 _ (reading_and c.in_ok-first.ensures c.in_err-last.ensures)
    (omega (arith, first, last)) (λ m h. tt))

pub returns : goal.returns
returns g c =
    let first = few_first c.args.members.now c.first_count-count.result c.first_count-count.ensures.few in
    let last = few_last c.args.members.now c.first_count-count.result c.first_count-told.result
    c.first_count-told.ensures.few in
    reading_gives 2560 _ (reading_and c.in_ok-first.ensures c.in_ok-last.ensures)
    (omega (arith, first, last))
    (λ m h. told_is c.args.layout.now c.args.places.now m c.args.members.now (end_of c.args.end)
    c.first_count-count.result c.first_count-told.result _ _ c.first_count-count.ensures.value
    c.first_count-told.ensures.value h.0 h.1)
