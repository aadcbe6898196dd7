use Rattle.std.proofs.Common.{arith}
use Rattle.std.proofs.lemmas.Result.{err_from_is_err_and}
use Rattle.std.specs.Prelude.{option_map}
use Rattle.py_process.specs.Facts.{facts_of, known_of}
use Rattle.py_process.proofs.Sections.{program_sections}
use Rattle.py_process.specs.Sources.{bss_of, library_sources}
use Rattle.py_process.proofs.Telling.{reads_error, reads_on, reads_version}
use Rattle.py_process.proofs.python_version.read_sections.Goals as goal

pub returns-in_err-version : goal.returns-in_err-version
returns-in_err-version g c =
    let p = err_from_is_err_and c.from_residual.result c.from_residual.ensures.1 in
    rw p.1 (reads_error 2 (bss_of (option_map facts_of c.args.info.now.python_binary)) (library_sources (known_of c.args.info.now)) c.in_err-version.field-0.0 p.0 p.2 (program_sections (known_of c.args.info.now) c.in_err-version.ensures) (omega arith))

pub returns-in-Some : goal.returns-in-Some
returns-in-Some g c =
    reads_version 2 (bss_of (option_map facts_of c.args.info.now.python_binary)) (library_sources (known_of c.args.info.now)) c.in_ok-version.field-0 c.in-Some.version c.in-Some.is (program_sections (known_of c.args.info.now) c.in_ok-version.ensures) (omega arith)

pub returns : goal.returns
returns g c =
    reads_on 2 (bss_of (option_map facts_of c.args.info.now.python_binary)) (library_sources (known_of c.args.info.now)) c.in_ok-version.field-0 c.read_library.result c.in_default.is (program_sections (known_of c.args.info.now) c.in_ok-version.ensures) c.read_library.ensures (omega arith)
