use Rattle.std.proofs.Common.{arith, ap}
use Rattle.std.proofs.lemmas.Result.{err_from_is_err_and}
use Rattle.process_memory.proofs.Reading.{reading_gives, reading_here, reading_then}
use Rattle.process_memory.specs.Memory.{byte_at}
use Rattle.py_fronts.specs.Interpreters.{after_records, finds_of, records_reads}
use Rattle.py_fronts.proofs.FindSteps.{records_behind}
use Rattle.py_fronts.proofs.Steps.{lost_first}
use Rattle.py_fronts.proofs.interpreters.take_with_records.Goals as goal

pub returns-in_err-take_candidates : goal.returns-in_err-take_candidates
returns-in_err-take_candidates g c =
    let p = err_from_is_err_and c.from_residual.result c.from_residual.ensures.1 in
    rw p.1 (lost_first _ c.in_err-take_candidates.ensures p.2 (omega arith))

pub returns : goal.returns
returns g c =
    let contains = g.M.ContainsAddr.contains c.args.maps.now in
    let same = ap (λ ps. records_reads c.args.layout.now (byte_at ps) (after_records contains c.args.layout.now (byte_at ps) 16 0 (finds_of c.take_candidates.new.finds)).found) c.in_ok-take_candidates.ensures.pieces in
    let cost = ap (λ r. records_reads c.args.layout.now (byte_at (g.P.ProcessMemory.seen c.args.process.now).pieces) (after_records contains c.args.layout.now (byte_at (g.P.ProcessMemory.seen c.args.process.now).pieces) 16 0 r).found) (reading_here c.in_ok-take_candidates.ensures) in
    reading_gives _ _ (reading_then _ c.in_ok-take_candidates.ensures c.take_records.ensures
    (λ m a b. records_behind contains c.args.layout.now m _ _ c.take_records.new.finds c.take_records.result a b)) (omega (arith, same, cost)) (λ m h. h)
