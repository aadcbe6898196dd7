use Rattle.std.proofs.Common.{arith, ap, [], ◌∷◌, ◌∙◌}
use Rattle.std.proofs.lemmas.Result.{err_from_is_err_and}
use Rattle.std.specs.Prelude.{Ok, Err, option_map}
use Rattle.process_memory.proofs.Reading.{reading_none}
use Rattle.py_process.specs.Sources.VersionSource.{Path}
use Rattle.py_process.specs.FileVersions.{file_version}
use Rattle.py_process.specs.declared.version_error.VersionError.TheVariants.{OutOfMemory}
use Rattle.py_process.specs.Facts.{facts_of, known_of}
use Rattle.py_process.proofs.Sections.{library_sections}
use Rattle.py_process.specs.Sources.{bss_of}
use Rattle.py_process.proofs.Telling.{reads_error, reads_on, reads_version, told_one}
use Rattle.py_process.proofs.python_version.read_library.Goals as goal

pub returns-in_err-version : goal.returns-in_err-version
returns-in_err-version g c =
    let p = err_from_is_err_and c.from_residual.result c.from_residual.ensures.1 in
    rw p.1 (reads_error 1 (bss_of (option_map facts_of c.args.info.now.libpython_binary)) (Path c.args.info.now.python_filename ∷ []) c.in_err-version.field-0.0 p.0 p.2 (library_sections (known_of c.args.info.now) c.in_err-version.ensures) (omega arith))

pub returns-in-Some : goal.returns-in-Some
returns-in-Some g c =
    reads_version 1 (bss_of (option_map facts_of c.args.info.now.libpython_binary)) (Path c.args.info.now.python_filename ∷ []) c.in_ok-version.field-0 c.in-Some.version c.in-Some.is (library_sections (known_of c.args.info.now) c.in_ok-version.ensures) (omega arith)

pub returns-in_err-version-2 : goal.returns-in_err-version-2
returns-in_err-version-2 g c =
    let p = err_from_is_err_and c.from_residual-in_err-version-2.result c.from_residual-in_err-version-2.ensures.1 in
    rw (p.1, p.2) (reads_on {k = 0} 1 (bss_of (option_map facts_of c.args.info.now.libpython_binary)) (Path c.args.info.now.python_filename ∷ []) c.in_ok-version.field-0 (Err OutOfMemory) c.in_default.is (library_sections (known_of c.args.info.now) c.in_ok-version.ensures)
    (reading_none 0 _ _ (λ m. tt)) (omega arith))

pub returns : goal.returns
returns g c =
    let path = c.args.info.now.python_filename in
    let told = c.in_ok-version-2.ensures ∙ ap file_version c.as_bytes.ensures in
    reads_on {k = 0} 1 (bss_of (option_map facts_of c.args.info.now.libpython_binary)) (Path path ∷ []) c.in_ok-version.field-0 (Ok c.in_ok-version-2.version) c.in_default.is (library_sections (known_of c.args.info.now) c.in_ok-version.ensures)
    (reading_none 0 _ _ (λ m. told_one m (Path path) (Ok c.in_ok-version-2.version) (ap (λ v. Ok v) told))) (omega arith)
