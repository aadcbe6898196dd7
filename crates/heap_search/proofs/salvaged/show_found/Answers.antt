use Rattle.std.proofs.Common.{◌∙◌, arith, ap, length}
use Rattle.std.proofs.lemmas.Result.{err_from_is_err_and}
use Rattle.process_memory.specs.Memory.{byte_at}
use Rattle.process_memory.proofs.Reading.{reading_gives, reading_here, reading_then}
use Rattle.py_process.specs.Facts.{known_of}
use Rattle.py_fronts.specs.Fronts.{fronts_reads, interpreters_fronts}
use Rattle.py_fronts.proofs.Steps.{lost_then}
use Rattle.heap_search.specs.Salvaged.{both_looked}
use Rattle.heap_search.specs.Search.{search_of}
use Rattle.heap_search.proofs.SalvageSteps.{fronts_few, shown_is}
use Rattle.heap_search.proofs.salvaged.show_found.Goals as goal

pub returns-in_err-interpreters : goal.returns-in_err-interpreters
returns-in_err-interpreters g c =
    let p = err_from_is_err_and c.from_residual-in_err-interpreters.result
    c.from_residual-in_err-interpreters.ensures.1 in
    let here = byte_at (g.P.ProcessMemory.seen c.args.process.now).pieces in
    let few = fronts_few c.args.asked c.args.layout.now here c.args.limit c.deref.result.now
    c.in_ok-fronts.fronts.items (reading_here c.in_ok-fronts.ensures) in
    let same = ap (λ xs. fronts_reads c.args.asked (interpreters_fronts c.args.asked c.args.layout.now here c.args.limit
    4194304 xs)) c.deref.ensures.value in
    rw p.1 (lost_then _ c.in_ok-fronts.ensures c.in_err-interpreters.ensures p.2
    (omega (arith, few, same, ap length c.deref.ensures.value)))

pub returns : goal.returns
returns g c =
    let here = byte_at (g.P.ProcessMemory.seen c.args.process.now).pieces in
    let few = fronts_few c.args.asked c.args.layout.now here c.args.limit c.deref.result.now
    c.in_ok-fronts.fronts.items (reading_here c.in_ok-fronts.ensures) in
    let same = ap (λ xs. fronts_reads c.args.asked (interpreters_fronts c.args.asked c.args.layout.now here c.args.limit
    4194304 xs)) c.deref.ensures.value in
    let both = c.both_looked.ensures ∙ ap (both_looked c.args.looked) c.looked_by.ensures in
    reading_gives _ _ (reading_then _ c.in_ok-fronts.ensures c.in_ok-interpreters.ensures
    (λ m a b. shown_is c.args.machine (known_of c.args.info.now) c.args.version.now c.args.layout.now m c.args.asked
    c.args.limit c.args.crash c.args.segments.now c.args.looked c.both_looked.result (search_of c.args.search.now)
    c.in_ok-fronts.fronts.items c.in_ok-interpreters.interpreters.items
    (a ∙ ap (interpreters_fronts c.args.asked c.args.layout.now m c.args.limit 4194304) c.deref.ensures.value) b both))
    (omega (arith, few, same, ap length c.deref.ensures.value)) (λ m h. h)
