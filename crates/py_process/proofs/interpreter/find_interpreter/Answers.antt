use Rattle.std.proofs.lemmas.Result.{err_from_is_err_and}
use Rattle.py_process.specs.Facts.{known_of}
use Rattle.py_process.proofs.Searches.{search_failed, search_found, search_lost}
use Rattle.py_process.proofs.interpreter.find_interpreter.Goals as goal

pub returns-in_err-addr : goal.returns-in_err-addr
returns-in_err-addr g c =
    let p = err_from_is_err_and c.from_residual.result c.from_residual.ensures.1 in
    rw p.1 (search_lost (g.M.ContainsAddr.contains c.args.info.now.maps) (known_of c.args.info.now) c.args.version.now c.args.layout.now c.in_err-addr.field-0.0 p.0 p.2 c.in_err-addr.ensures)

pub returns-in-Some : goal.returns-in-Some
returns-in-Some g c =
    search_found (g.M.ContainsAddr.contains c.args.info.now.maps) (known_of c.args.info.now) c.args.version.now c.args.layout.now c.in_ok-addr.field-0 c.in-Some.addr c.in-Some.is c.in_ok-addr.ensures

pub returns-in-None : goal.returns-in-None
returns-in-None g c =
    search_failed (g.M.ContainsAddr.contains c.args.info.now.maps) (known_of c.args.info.now) c.args.version.now c.args.layout.now c.in_ok-addr.field-0 c.in-None.is c.in_ok-addr.ensures
