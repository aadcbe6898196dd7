use Rattle.std.proofs.Common.{◌*◌, arith}
use Rattle.std.proofs.lemmas.Result.{err_from_is_err_and}
use Rattle.process_memory.specs.Memory.{Memory}
use Rattle.py_process.specs.Facts.{known_of}
use Rattle.py_fronts.specs.Candidates.{runtime_count, runtime_counts, runtime_of_image}
use Rattle.py_fronts.specs.Interpreters.{search_of}
use Rattle.py_fronts.proofs.SearchSteps.{searched_first, searched_then}
use Rattle.py_fronts.proofs.search.look_in_runtimes.Goals as goal

pub returns-in_err-look_in_runtime : goal.returns-in_err-look_in_runtime
returns-in_err-look_in_runtime g c =
    let p = err_from_is_err_and c.from_residual.result c.from_residual.ensures.1 in
    let k = known_of c.args.info.now in
    rw p.1 (searched_first (g.M.ContainsAddr.contains c.args.info.now.maps) c.args.layout.now (search_of c.args.search.now) (λ (m : Memory). runtime_of_image m k.program) (λ (m : Memory). runtime_of_image m k.library)
    (5 * runtime_count k.program) (5 * runtime_counts k) p.0 c.in_err-look_in_runtime.field-0.0 c.in_err-look_in_runtime.ensures p.2 (omega arith))

pub returns : goal.returns
returns g c =
    let k = known_of c.args.info.now in
    searched_then (g.M.ContainsAddr.contains c.args.info.now.maps) c.args.layout.now (search_of c.args.search.now) (λ (m : Memory). runtime_of_image m k.program) (λ (m : Memory). runtime_of_image m k.library)
    (5 * runtime_count k.program) (5 * runtime_count k.library) c.look_in_runtime.new.search c.look_in_runtime-2.new.search c.look_in_runtime-2.result (5 * runtime_counts k) c.in_ok-look_in_runtime.ensures c.look_in_runtime-2.ensures (omega arith)
