use Rattle.std.proofs.Common.{ap, arith, [], ◌∙◌}
use Rattle.std.proofs.lemmas.Result.{err_from_is_err_and}
use Rattle.process_memory.proofs.Reading.{reading_gives}
use Rattle.thread_exceptions.specs.Links.{chain_from}
use Rattle.thread_exceptions.specs.Turns.{turn_at}
use Rattle.py_exceptions.specs.Tracebacks.{start_of, told_of, traceback_at}
use Rattle.py_exceptions.proofs.Tells.{reading_and, shown_as}
use Rattle.py_exceptions.proofs.traceback.read_traceback.Goals as goal

pub returns-in_err-chain : goal.returns-in_err-chain
returns-in_err-chain g c =
    let p = err_from_is_err_and c.from_residual-in_err-chain.result c.from_residual-in_err-chain.ensures.1 in
    rw p.1 (reading_gives 68102 _ (reading_and c.in_ok-value.ensures c.in_err-chain.ensures.answer) (omega arith)
    (λ m h. tt))

pub returns : goal.returns
unfolding traceback_at
returns g c =
    let told = rw c.deref.ensures.value at c.read_told.ensures in
    reading_gives 68102 _ (reading_and c.in_ok-value.ensures (reading_and c.in_ok-chain.ensures.answer told))
    (omega arith)
    (λ m h. shown_as _ _ _ _ h.1.1
    (ap (told_of c.args.layout.now c.args.places.now m) h.1.0
    ∙ ap (λ s. told_of c.args.layout.now c.args.places.now m (chain_from (turn_at c.args.places.now.next m) [] 65536 s))
    (c.start_of-start.ensures ∙ ap (start_of c.args.head) h.0)))
