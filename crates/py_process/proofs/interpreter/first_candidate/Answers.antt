use Rattle.std.proofs.Common.{arith}
use Rattle.std.proofs.lemmas.Result.{err_from_is_err_and}
use Rattle.py_process.specs.Candidates.{candidates_of, head_by, words_of_images}
use Rattle.py_process.specs.Facts.{known_of}
use Rattle.py_process.proofs.Sections.{searching}
use Rattle.py_process.proofs.Searches.{seek_found, seek_lost, seek_then}
use Rattle.py_process.proofs.interpreter.first_candidate.Goals as goal

pub returns-in_err-found : goal.returns-in_err-found
unfolding candidates_of
returns-in_err-found g c =
    let p = err_from_is_err_and c.from_residual.result c.from_residual.ensures.1 in
    let info = c.args.info.now in
    let l = c.args.layout.now in
    rw p.1 (seek_lost (g.M.ContainsAddr.contains info.maps) l 2 6 (head_by l.head (known_of info) c.args.version.now l) (λ m. words_of_images m (known_of info))
    c.in_err-found.field-0.0 p.0 p.2 (omega arith) (searching (known_of c.args.info.now) c.in_err-found.ensures))

pub returns-in-Some : goal.returns-in-Some
unfolding candidates_of
returns-in-Some g c =
    let info = c.args.info.now in
    let l = c.args.layout.now in
    seek_found (g.M.ContainsAddr.contains info.maps) l 2 6 (head_by l.head (known_of info) c.args.version.now l) (λ m. words_of_images m (known_of info))
    c.in_ok-found.field-0 c.in-Some.found c.in-Some.is (omega arith) (searching (known_of c.args.info.now) c.in_ok-found.ensures)

pub returns : goal.returns
unfolding candidates_of
returns g c =
    let info = c.args.info.now in
    let l = c.args.layout.now in
    seek_then (g.M.ContainsAddr.contains info.maps) l 2 4 (head_by l.head (known_of info) c.args.version.now l) (λ m. words_of_images m (known_of info))
    c.in_ok-found.field-0 c.first_in_images.result c.in_default.is (searching (known_of c.args.info.now) c.in_ok-found.ensures) c.first_in_images.ensures
