use Rattle.std.proofs.Common.{arith, ap}
use Rattle.std.proofs.lemmas.Result.{err_from_is_err_and}
use Rattle.process_memory.specs.Memory.{byte_at}
use Rattle.process_memory.proofs.Reading.{reading_gives, reading_here, reading_then}
use Rattle.py_process.specs.Facts.{known_of}
use Rattle.py_process.proofs.Sections.{searching}
use Rattle.py_fronts.specs.Candidates.{searched_candidates}
use Rattle.py_fronts.specs.Interpreters.{Finds, after_records, finds_of, records_reads, search_of, walked_by}
use Rattle.py_fronts.proofs.FindSteps.{first_reads, records_of_search, search_cost, search_is, told_is}
use Rattle.py_fronts.proofs.Steps.{lost_first, lost_then, reading_both}
use Rattle.py_fronts.proofs.interpreters.find_all.Goals as goal

pub returns-in_err-search : goal.returns-in_err-search
returns-in_err-search g c =
    let p = err_from_is_err_and c.from_residual.result c.from_residual.ensures.1 in
    let contains = g.M.ContainsAddr.contains c.args.info.now.maps in
    let k = known_of c.args.info.now in
    let here = byte_at (g.P.ProcessMemory.seen c.args.process.now).pieces in
    let few = first_reads contains k c.args.version.now c.args.layout.now here in
    rw p.1 (lost_first _ (searching k c.in_err-search.ensures) p.2 (omega (arith, few)))

pub returns-in_err-look_in_sections : goal.returns-in_err-look_in_sections
returns-in_err-look_in_sections g c =
    let p = err_from_is_err_and c.from_residual-in_err-look_in_sections.result c.from_residual-in_err-look_in_sections.ensures.1 in
    let contains = g.M.ContainsAddr.contains c.args.info.now.maps in
    let k = known_of c.args.info.now in
    let l = c.args.layout.now in
    let here = byte_at (g.P.ProcessMemory.seen c.args.process.now).pieces in
    let few = first_reads contains k c.args.version.now l here in
    let same = ap (λ ps. walked_by contains l (byte_at ps) (search_of c.in_ok-search.search) (searched_candidates k (byte_at ps))) c.in_ok-search.ensures.pieces in
    let walked = search_cost contains k c.args.version.now l here c.in_ok-search.search (reading_here c.in_ok-search.ensures) in
    rw p.1 (lost_then _ (searching k c.in_ok-search.ensures) (searching k c.in_err-look_in_sections.ensures) p.2 (omega (arith, few, same, walked)))

pub returns-in_err-take_records : goal.returns-in_err-take_records
returns-in_err-take_records g c =
    let p = err_from_is_err_and c.from_residual-in_err-take_records.result c.from_residual-in_err-take_records.ensures.1 in
    let contains = g.M.ContainsAddr.contains c.args.info.now.maps in
    let k = known_of c.args.info.now in
    let v = c.args.version.now in
    let l = c.args.layout.now in
    let here = byte_at (g.P.ProcessMemory.seen c.args.process.now).pieces in
    let two = c.look_in_sections.new.search in
    let few = first_reads contains k v l here in
    let same = ap (λ ps. walked_by contains l (byte_at ps) (search_of c.in_ok-search.search) (searched_candidates k (byte_at ps))) c.in_ok-search.ensures.pieces in
    let walked = search_cost contains k v l here c.in_ok-search.search (reading_here c.in_ok-search.ensures) in
    let both = reading_both (searching k c.in_ok-search.ensures) (searching k c.in_ok-look_in_sections.ensures) in
    let told = reading_here both in
    let found = records_of_search contains k v l here two (search_is contains k v l here c.in_ok-search.search two told.0 told.1) in
    let same-2 = ap (λ ps. records_reads l (byte_at ps) (after_records contains l (byte_at ps) 16 0 (finds_of two.finds)).found) both.pieces in
    let records = ap (λ (r : Finds). records_reads l here r.found) found in
    rw p.1 (lost_then _ both (searching k c.in_err-take_records.ensures) p.2 (omega (arith, few, same, walked, same-2, records)))

pub returns : goal.returns
returns g c =
    let contains = g.M.ContainsAddr.contains c.args.info.now.maps in
    let k = known_of c.args.info.now in
    let v = c.args.version.now in
    let l = c.args.layout.now in
    let here = byte_at (g.P.ProcessMemory.seen c.args.process.now).pieces in
    let two = c.look_in_sections.new.search in
    let few = first_reads contains k v l here in
    let same = ap (λ ps. walked_by contains l (byte_at ps) (search_of c.in_ok-search.search) (searched_candidates k (byte_at ps))) c.in_ok-search.ensures.pieces in
    let walked = search_cost contains k v l here c.in_ok-search.search (reading_here c.in_ok-search.ensures) in
    let both = reading_both (searching k c.in_ok-search.ensures) (searching k c.in_ok-look_in_sections.ensures) in
    let told = reading_here both in
    let found = records_of_search contains k v l here two (search_is contains k v l here c.in_ok-search.search two told.0 told.1) in
    let same-2 = ap (λ ps. records_reads l (byte_at ps) (after_records contains l (byte_at ps) 16 0 (finds_of two.finds)).found) both.pieces in
    let records = ap (λ (r : Finds). records_reads l here r.found) found in
    reading_gives _ _ (reading_then _ both (searching k c.in_ok-take_records.ensures)
    (λ m a b. told_is contains k v l m two c.take_records.new.finds c.looked_by-looked.result
    (search_is contains k v l m c.in_ok-search.search two a.0 a.1) c.looked_by-looked.ensures b))
    (omega (arith, few, same, walked, same-2, records)) (λ m h. h)
