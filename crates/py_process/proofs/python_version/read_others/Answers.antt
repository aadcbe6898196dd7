use Rattle.std.proofs.Common.{arith}
use Rattle.std.proofs.lemmas.Result.{err_from_is_err_and}
use Rattle.std.specs.Prelude.{Ok, Err}
use Rattle.py_process.specs.Facts.{known_of}
use Rattle.py_process.proofs.Sections.{searching, searching_sections}
use Rattle.py_process.specs.Sources.{section_sources, text_source_at, text_symbol}
use Rattle.py_process.proofs.Telling.{reads_along, reads_error, reads_on, reads_version}
use Rattle.py_process.proofs.python_version.read_others.Goals as goal

pub returns-in_err-version : goal.returns-in_err-version
returns-in_err-version g c =
    let p = err_from_is_err_and c.from_residual.result c.from_residual.ensures.1 in
    let k = known_of c.args.info.now in
    rw p.1 (reads_error 3 (text_source_at (text_symbol k)) (section_sources k) c.in_err-version.field-0.0 p.0 p.2
    (reads_along _ _ (Err c.in_err-version.field-0.0) c.text_symbol.ensures (searching (known_of c.args.info.now) c.in_err-version.ensures)) (omega arith))

pub returns-in-Some : goal.returns-in-Some
returns-in-Some g c =
    let k = known_of c.args.info.now in
    reads_version 3 (text_source_at (text_symbol k)) (section_sources k) c.in_ok-version.field-0 c.in-Some.version c.in-Some.is
    (reads_along _ _ (Ok c.in_ok-version.field-0) c.text_symbol.ensures (searching (known_of c.args.info.now) c.in_ok-version.ensures)) (omega arith)

pub returns : goal.returns
returns g c =
    let k = known_of c.args.info.now in
    reads_on 3 (text_source_at (text_symbol k)) (section_sources k) c.in_ok-version.field-0 c.read_sections.result c.in_default.is
    (reads_along _ _ (Ok c.in_ok-version.field-0) c.text_symbol.ensures (searching (known_of c.args.info.now) c.in_ok-version.ensures)) (searching_sections (known_of c.args.info.now) c.read_sections.ensures) (omega arith)
