use Rattle.std.proofs.Common.{arith, ap, length}
use Rattle.std.proofs.lemmas.Result.{err_from_is_err_and}
use Rattle.process_memory.proofs.Reading.{reading_gives, reading_here, reading_none, reading_then}
use Rattle.process_memory.specs.Memory.{byte_at}
use Rattle.py_fronts.specs.Interpreters.{finds_of}
use Rattle.py_fronts.proofs.CandidateSteps.{others_within}
use Rattle.py_fronts.proofs.FindSteps.{no_record, record_reads_at, record_taken, two_each}
use Rattle.py_fronts.proofs.Steps.{lost_first}
use Rattle.py_fronts.proofs.interpreters.take_record.Goals as goal

pub returns-in-None : goal.returns-in-None
returns-in-None g c =
    let at = rw c.deref.ensures.value at c.address_at.ensures in
    reading_none _ _ _ (λ m. no_record (g.M.ContainsAddr.contains c.args.maps.now) c.args.layout.now m (finds_of c.args.finds.now) c.args.index c.address_at.result at c.in-None.is)

pub returns-in_err-candidates : goal.returns-in_err-candidates
returns-in_err-candidates g c =
    let p = err_from_is_err_and c.from_residual.result c.from_residual.ensures.1 in
    let at = rw c.deref.ensures.value at c.address_at.ensures in
    let cost = record_reads_at c.args.layout.now (byte_at (g.P.ProcessMemory.seen c.args.process.now).pieces) (finds_of c.args.finds.now).found c.args.index c.address_at.result c.in-Some.interpreter at c.in-Some.is in
    rw p.1 (lost_first _ c.in_err-candidates.ensures.answer p.2 (omega (arith, cost)))

pub returns : goal.returns
returns g c =
    let at = rw c.deref.ensures.value at c.address_at.ensures in
    let cost = record_reads_at c.args.layout.now (byte_at (g.P.ProcessMemory.seen c.args.process.now).pieces) (finds_of c.args.finds.now).found c.args.index c.address_at.result c.in-Some.interpreter at c.in-Some.is in
    let two = two_each (g.M.ContainsAddr.contains c.args.maps.now) c.args.layout.now (byte_at (g.P.ProcessMemory.seen c.others_led_to.new.process).pieces) c.deref-2.result.now in
    let few = others_within c.args.layout.now _ c.in-Some.interpreter c.in_ok-candidates.candidates.items (reading_here c.in_ok-candidates.ensures.answer) in
    reading_gives _ _ (reading_then _ c.in_ok-candidates.ensures.answer c.take_candidates.ensures
    (λ m a b. record_taken (g.M.ContainsAddr.contains c.args.maps.now) c.args.layout.now m (finds_of c.args.finds.now) c.args.index c.address_at.result c.in-Some.interpreter c.in_ok-candidates.candidates.items _ c.take_candidates.new.finds c.take_candidates.result at c.in-Some.is a c.deref-2.ensures.value b))
    (omega (arith, cost, few, ap length c.deref-2.ensures.value, two)) (λ m h. h)
