use Rattle.std.proofs.Common.{arith, ap, ◌∙◌}
use Rattle.std.proofs.lemmas.Result.{err_from_is_err_and}
use Rattle.process_memory.proofs.Reading.{reading_gives, reading_here, reading_then}
use Rattle.py_process.specs.Facts.{known_of}
use Rattle.py_process.proofs.Sections.{searching}
use Rattle.process_memory.specs.Memory.{byte_at}
use Rattle.py_fronts.specs.Fronts.{fronts_reads, interpreters_fronts}
use Rattle.py_fronts.specs.Interpreters.{Told}
use Rattle.py_fronts.proofs.FrontSteps.{fronts_cost, fronts_found}
use Rattle.py_fronts.proofs.Steps.{lost_then}
use Rattle.py_fronts.proofs.fronts.all_fronts.Goals as goal

pub returns-in_err-interpreters : goal.returns-in_err-interpreters
returns-in_err-interpreters g c =
    let p = err_from_is_err_and c.from_residual-in_err-interpreters.result
    c.from_residual-in_err-interpreters.ensures.1 in
    let same = ap (λ ps. fronts_reads c.args.asked (interpreters_fronts c.args.asked c.args.layout.now (byte_at ps)
    c.args.limit 4194304 c.deref.result.now)) c.in_ok-search.ensures.answer.pieces in
    let cost = fronts_cost (g.M.ContainsAddr.contains c.args.info.now.maps) (known_of c.args.info.now)
    c.args.version.now c.args.layout.now (byte_at (g.P.ProcessMemory.seen c.args.process.now).pieces) c.args.asked
    c.args.limit c.deref.result.now
    (c.deref.ensures.value ∙ ap (λ (x : Told). x.finds.found) (reading_here c.in_ok-search.ensures.answer)) in
    rw p.1 (lost_then _ c.in_ok-search.ensures.answer
    (searching (known_of c.args.info.now) c.in_err-interpreters.ensures) p.2 (omega (arith, same, cost)))

pub returns : goal.returns
returns g c =
    let same = ap (λ ps. fronts_reads c.args.asked (interpreters_fronts c.args.asked c.args.layout.now (byte_at ps)
    c.args.limit 4194304 c.deref.result.now)) c.in_ok-search.ensures.answer.pieces in
    let cost = fronts_cost (g.M.ContainsAddr.contains c.args.info.now.maps) (known_of c.args.info.now)
    c.args.version.now c.args.layout.now (byte_at (g.P.ProcessMemory.seen c.args.process.now).pieces) c.args.asked
    c.args.limit c.deref.result.now
    (c.deref.ensures.value ∙ ap (λ (x : Told). x.finds.found) (reading_here c.in_ok-search.ensures.answer)) in
    reading_gives _ _
    (reading_then _ c.in_ok-search.ensures.answer (searching (known_of c.args.info.now) c.in_ok-interpreters.ensures)
    (λ m a b. fronts_found (g.M.ContainsAddr.contains c.args.info.now.maps) (known_of c.args.info.now)
    c.args.version.now c.args.layout.now m c.args.asked c.args.limit c.in_ok-search.search _ _ a
    c.deref.ensures.value b)) (omega (arith, same, cost)) (λ m h. h)
