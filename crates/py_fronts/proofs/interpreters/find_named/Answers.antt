use Rattle.std.proofs.Common.{arith, refl, ap, false, ◌∙◌}
use Rattle.std.proofs.lemmas.Result.{err_from_is_err_and}
use Rattle.process_memory.specs.Memory.{byte_at}
use Rattle.process_memory.proofs.Reading.{reading_gives, reading_here, reading_then}
use Rattle.py_process.specs.Facts.{known_of}
use Rattle.py_fronts.specs.declared.interpreters.FoundInterpreters.{FoundInterpreters}
use Rattle.py_fronts.specs.Interpreters.{finds_of, taking_reads}
use Rattle.py_fronts.proofs.FindSteps.{named_cost, named_found}
use Rattle.py_fronts.proofs.Steps.{lost_then}
use Rattle.py_fronts.proofs.interpreters.find_named.Goals as goal

pub returns-in_err-take_with_records : goal.returns-in_err-take_with_records
returns-in_err-take_with_records g c =
    let p = err_from_is_err_and c.from_residual-in_err-take_with_records.result c.from_residual-in_err-take_with_records.ensures.1 in
    let contains = g.M.ContainsAddr.contains c.args.info.now.maps in
    let k = known_of c.args.info.now in
    let here = byte_at (g.P.ProcessMemory.seen c.args.process.now).pieces in
    let start : FoundInterpreters = record { found = c.new.result; more = false } in
    let named = c.deref.ensures.value ∙ reading_here c.in_ok-named.ensures in
    let same = ap (λ ps. taking_reads false contains c.args.layout.now (byte_at ps) (finds_of start) c.deref.result.now) c.in_ok-named.ensures.pieces in
    let cost = named_cost contains k c.args.version.now c.args.layout.now here start c.deref.result.now c.new.ensures.items refl named in
    rw p.1 (lost_then _ c.in_ok-named.ensures c.in_err-take_with_records.ensures p.2 (omega (arith, same, cost)))

pub returns : goal.returns
returns g c =
    let contains = g.M.ContainsAddr.contains c.args.info.now.maps in
    let k = known_of c.args.info.now in
    let here = byte_at (g.P.ProcessMemory.seen c.args.process.now).pieces in
    let start : FoundInterpreters = record { found = c.new.result; more = false } in
    let named = c.deref.ensures.value ∙ reading_here c.in_ok-named.ensures in
    let same = ap (λ ps. taking_reads false contains c.args.layout.now (byte_at ps) (finds_of start) c.deref.result.now) c.in_ok-named.ensures.pieces in
    let cost = named_cost contains k c.args.version.now c.args.layout.now here start c.deref.result.now c.new.ensures.items refl named in
    reading_gives _ _ (reading_then _ c.in_ok-named.ensures c.in_ok-take_with_records.ensures
    (λ m a b. named_found contains k c.args.version.now c.args.layout.now m start c.take_with_records.new.finds
    c.in_ok-named.named.items _ _ c.new.ensures.items refl a c.deref.ensures.value (omega arith) b))
    (omega (arith, same, cost)) (λ m h. h)
