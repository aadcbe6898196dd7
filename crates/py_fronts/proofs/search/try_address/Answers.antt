use Rattle.std.proofs.Common.{arith, ap, length}
use Rattle.std.proofs.lemmas.Result.{err_from_is_err_and}
use Rattle.process_memory.proofs.Reading.{reading_gives, reading_here, reading_then}
use Rattle.process_memory.specs.Memory.{byte_at}
use Rattle.py_fronts.specs.ChainEnds.{ending_of}
use Rattle.py_fronts.specs.ThreadFronts.{threads_front}
use Rattle.py_fronts.proofs.SearchSteps.{tried_cost, tried_none, tried_some}
use Rattle.py_fronts.proofs.Steps.{lost_first, lost_then}
use Rattle.py_fronts.proofs.search.try_address.Goals as goal

pub returns-in_err-head-clause-answer : goal.returns-in_err-head-clause-answer
returns-in_err-head-clause-answer g c =
    let p = err_from_is_err_and c.from_residual.result c.from_residual.ensures.1 in
    rw p.1 (lost_first _ c.in_err-head.ensures p.2 (omega arith))

pub returns-in-None-clause-answer : goal.returns-in-None-clause-answer
returns-in-None-clause-answer g c =
    reading_gives _ _ c.in_ok-head.ensures (omega arith)
    (λ m a. tried_none (g.M.ContainsAddr.contains c.args.maps.now) c.args.layout.now m c.args.addr c.in_ok-head.field-0 c.in-None.is a)

pub returns-in_err-walk-clause-answer : goal.returns-in_err-walk-clause-answer
returns-in_err-walk-clause-answer g c =
    let p = err_from_is_err_and c.from_residual-in_err-walk.result c.from_residual-in_err-walk.ensures.1 in
    let here = byte_at (g.P.ProcessMemory.seen c.args.process.now).pieces in
    let all = tried_cost (g.M.ContainsAddr.contains c.args.maps.now) c.args.layout.now here c.args.addr c.in-Some.head c.in_ok-head.field-0 c.in-Some.is (reading_here c.in_ok-head.ensures) in
    let same = ap (λ ps. length (threads_front c.args.layout.now c.args.addr (byte_at ps) c.in-Some.head).members) c.in_ok-head.ensures.pieces in
    rw p.1 (lost_then _ c.in_ok-head.ensures c.in_err-walk.ensures.answer p.2 (omega (arith, all, same)))

pub returns-clause-answer : goal.returns-clause-answer
returns-clause-answer g c =
    let here = byte_at (g.P.ProcessMemory.seen c.args.process.now).pieces in
    let all = tried_cost (g.M.ContainsAddr.contains c.args.maps.now) c.args.layout.now here c.args.addr c.in-Some.head c.in_ok-head.field-0 c.in-Some.is (reading_here c.in_ok-head.ensures) in
    let same = ap (λ ps. length (threads_front c.args.layout.now c.args.addr (byte_at ps) c.in-Some.head).members) c.in_ok-head.ensures.pieces in
    reading_gives _ _ (reading_then _ c.in_ok-head.ensures c.in_ok-walk.ensures.answer
    (λ m a b. tried_some (g.M.ContainsAddr.contains c.args.maps.now) c.args.layout.now m c.args.addr c.in-Some.head c.in_ok-walk.walk.members c.in_ok-head.field-0 c.whole_head.result (ending_of c.in_ok-walk.walk.end) c.in-Some.is a b c.whole_head.ensures))
    (omega (arith, all, same)) (λ m h. h)
