use Rattle.std.proofs.Common.{arith}
use Rattle.std.specs.Prelude.{option_map}
use Rattle.std.proofs.lemmas.Result.{err_from_is_err_and}
use Rattle.process_memory.proofs.Reading.{reading_wider}
use Rattle.py_process.specs.Candidates.{words_of_image}
use Rattle.py_process.specs.Facts.{facts_of, known_of}
use Rattle.py_process.proofs.Sections.{library_searched, program_searched}
use Rattle.py_process.proofs.Searches.{seek_found, seek_lost, seek_then}
use Rattle.py_process.proofs.interpreter.first_in_images.Goals as goal

pub returns-in_err-found : goal.returns-in_err-found
returns-in_err-found g c =
    let p = err_from_is_err_and c.from_residual.result c.from_residual.ensures.1 in
    let info = c.args.info.now in
    rw p.1 (seek_lost (g.M.ContainsAddr.contains info.maps) c.args.layout.now 2 4 (λ m. words_of_image m (option_map facts_of info.python_binary)) (λ m. words_of_image m (option_map facts_of info.libpython_binary))
    c.in_err-found.field-0.0 p.0 p.2 (omega arith) (reading_wider _ c.in_err-found.ensures (program_searched (known_of info))))

pub returns-in-Some : goal.returns-in-Some
returns-in-Some g c =
    let info = c.args.info.now in
    seek_found (g.M.ContainsAddr.contains info.maps) c.args.layout.now 2 4 (λ m. words_of_image m (option_map facts_of info.python_binary)) (λ m. words_of_image m (option_map facts_of info.libpython_binary))
    c.in_ok-found.field-0 c.in-Some.found c.in-Some.is (omega arith) (reading_wider _ c.in_ok-found.ensures (program_searched (known_of info)))

pub returns : goal.returns
returns g c =
    let info = c.args.info.now in
    seek_then (g.M.ContainsAddr.contains info.maps) c.args.layout.now 2 2 (λ m. words_of_image m (option_map facts_of info.python_binary)) (λ m. words_of_image m (option_map facts_of info.libpython_binary))
    c.in_ok-found.field-0 c.first_in_image-2.result c.in_default.is (reading_wider _ c.in_ok-found.ensures (program_searched (known_of info)))
    (reading_wider _ c.first_in_image-2.ensures (library_searched (known_of info)))
