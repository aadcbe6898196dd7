use Rattle.std.proofs.Common.{◌*◌, arith}
use Rattle.std.proofs.lemmas.Result.{err_from_is_err_and}
use Rattle.py_process.specs.Facts.{known_of}
use Rattle.py_fronts.specs.Candidates.{bss_counts, bsses_there, runtime_counts, runtimes_there, searched_candidates, words_in_sections}
use Rattle.py_fronts.specs.Interpreters.{search_of}
use Rattle.py_fronts.proofs.SearchSteps.{searched_first, searched_then}
use Rattle.py_fronts.proofs.search.look_in_sections.Goals as goal

pub returns-in_err-look_in_runtimes : goal.returns-in_err-look_in_runtimes
unfolding searched_candidates
returns-in_err-look_in_runtimes g c =
    let p = err_from_is_err_and c.from_residual.result c.from_residual.ensures.1 in
    let k = known_of c.args.info.now in
    rw p.1 (searched_first (g.M.ContainsAddr.contains c.args.info.now.maps) c.args.layout.now (search_of c.args.search.now) (runtimes_there k) (bsses_there k) (5 * runtime_counts k) (5 * words_in_sections k) p.0 c.in_err-look_in_runtimes.field-0.0
    c.in_err-look_in_runtimes.ensures p.2 (omega arith))

pub returns : goal.returns
unfolding searched_candidates
returns g c =
    let k = known_of c.args.info.now in
    searched_then (g.M.ContainsAddr.contains c.args.info.now.maps) c.args.layout.now (search_of c.args.search.now) (runtimes_there k) (bsses_there k) (5 * runtime_counts k) (5 * bss_counts k) c.look_in_runtimes.new.search c.look_in_bsses.new.search c.look_in_bsses.result (5 * words_in_sections k) c.in_ok-look_in_runtimes.ensures
    c.look_in_bsses.ensures (omega arith)
