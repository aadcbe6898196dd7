use Rattle.std.proofs.Common.{arith, ap, length}
use Rattle.std.proofs.lemmas.Result.{err_from_is_err_and}
use Rattle.process_memory.proofs.Reading.{reading_gives, reading_here, reading_then}
use Rattle.process_memory.specs.Memory.{byte_at}
use Rattle.py_fronts.specs.ThreadFronts.{threads_front}
use Rattle.py_fronts.proofs.Steps.{lost_first, lost_then}
use Rattle.heap_search.proofs.SearchSteps.{known_cost, known_none, known_some}
use Rattle.heap_search.proofs.search.try_known.Goals as goal

pub returns-in_err-trial-clause-answer : goal.returns-in_err-trial-clause-answer
returns-in_err-trial-clause-answer g c =
    let p = err_from_is_err_and c.from_residual.result c.from_residual.ensures.1 in
    rw p.1 (lost_first _ c.in_err-trial.ensures.answer p.2 (omega arith))

pub returns-in-None-clause-answer : goal.returns-in-None-clause-answer
returns-in-None-clause-answer g c =
    reading_gives _ _ c.in_ok-trial.ensures.answer (omega arith)
    (λ m a. known_none (g.M.ContainsAddr.contains c.args.maps.now) c.args.layout.now c.args.pointers.now c.args.class m
    c.args.addr c.in_ok-trial.trial.members c.in_ok-trial.trial.head c.in-None.is a)

pub returns-in_err-known-clause-answer : goal.returns-in_err-known-clause-answer
returns-in_err-known-clause-answer g c =
    let p = err_from_is_err_and c.from_residual-in_err-known.result c.from_residual-in_err-known.ensures.1 in
    let here = byte_at (g.P.ProcessMemory.seen c.args.process.now).pieces in
    let all = known_cost (g.M.ContainsAddr.contains c.args.maps.now) c.args.layout.now here c.args.addr c.in-Some.head
    c.in_ok-trial.trial.members c.in_ok-trial.trial.head c.in-Some.is (reading_here c.in_ok-trial.ensures.answer) in
    let same = ap (λ ps. length (threads_front c.args.layout.now c.args.addr (byte_at ps) c.in-Some.head).members)
    c.in_ok-trial.ensures.answer.pieces in
    rw p.1 (lost_then _ c.in_ok-trial.ensures.answer c.in_err-known.ensures p.2 (omega (arith, all, same)))

pub returns-clause-answer : goal.returns-clause-answer
returns-clause-answer g c =
    let here = byte_at (g.P.ProcessMemory.seen c.args.process.now).pieces in
    let all = known_cost (g.M.ContainsAddr.contains c.args.maps.now) c.args.layout.now here c.args.addr c.in-Some.head
    c.in_ok-trial.trial.members c.in_ok-trial.trial.head c.in-Some.is (reading_here c.in_ok-trial.ensures.answer) in
    let same = ap (λ ps. length (threads_front c.args.layout.now c.args.addr (byte_at ps) c.in-Some.head).members)
    c.in_ok-trial.ensures.answer.pieces in
    reading_gives _ _ (reading_then _ c.in_ok-trial.ensures.answer c.in_ok-known.ensures
    (λ m a b. known_some (g.M.ContainsAddr.contains c.args.maps.now) c.args.layout.now c.args.pointers.now c.args.class
    m c.args.addr c.in-Some.head c.in_ok-trial.trial.members c.in_ok-trial.trial.head c.in_ok-known.known c.head_if.result
    c.in-Some.is a b c.head_if.ensures))
    (omega (arith, all, same)) (λ m h. h)
