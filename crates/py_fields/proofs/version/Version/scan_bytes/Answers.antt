use Rattle.std.proofs.Common.{refl, subst, sym}
use Rattle.std.proofs.lemmas.Result.{err_from_is_err_and}
use Rattle.py_fields.specs.Spelling.{IsLeftmost}
use Rattle.py_fields.specs.Fronts.{version_of}
use Rattle.py_fields.proofs.Ascii.{flags_ascii, metadata_ascii}
use Rattle.py_fields.proofs.Scans.{leftmost, not_none, spells_none}
use Rattle.py_fields.proofs.Unique.{spells_once}
use Rattle.py_fields.proofs.version.Version.scan_bytes.Goals as goal

pub returns-in_default-clause-not_found : goal.returns-in_default-clause-not_found
returns-in_default-clause-not_found c = (λ _. spells_none c.args.bytes.now c.in_default.ensures, λ _. refl)

pub returns-in_default-clause-once : goal.returns-in_default-clause-once
returns-in_default-clause-once c = spells_once c.args.bytes.now

pub version_by-requires-clause-flags : goal.version_by-requires-clause-flags
version_by-requires-clause-flags c =
    let is = leftmost c.args.bytes.now (version_of c.in-Some.spelling) c.in-Some.ensures in
    flags_ascii c.in-Some.spelling.flags.now is.here.spells.are_flags

pub version_by-requires-clause-metadata : goal.version_by-requires-clause-metadata
version_by-requires-clause-metadata c =
    let is = leftmost c.args.bytes.now (version_of c.in-Some.spelling) c.in-Some.ensures in
    metadata_ascii c.args.bytes.now c.in-Some.spelling.metadata (version_of c.in-Some.spelling) is refl

pub returns-in_err-version-clause-not_found : goal.returns-in_err-version-clause-not_found
returns-in_err-version-clause-not_found c =
    let p = err_from_is_err_and c.from_residual.result c.from_residual.ensures.1 in
    let is = leftmost c.args.bytes.now (version_of c.in-Some.spelling) c.in-Some.ensures in
    (λ e. absurd (cc (e, p.1, p.2)), λ none. absurd (not_none c.args.bytes.now (version_of c.in-Some.spelling) is none))

pub returns-in_err-version-clause-once : goal.returns-in_err-version-clause-once
returns-in_err-version-clause-once c = spells_once c.args.bytes.now

pub returns-clause-found : goal.returns-clause-found
returns-clause-found c =
    let is = leftmost c.args.bytes.now (version_of c.in-Some.spelling) c.in-Some.ensures in
    subst (IsLeftmost c.args.bytes.now) (sym c.in_ok-version.ensures) is

pub returns-clause-not_found : goal.returns-clause-not_found
returns-clause-not_found c =
    let is = leftmost c.args.bytes.now (version_of c.in-Some.spelling) c.in-Some.ensures in
    (λ e. absurd (cc (e)), λ none. absurd (not_none c.args.bytes.now (version_of c.in-Some.spelling) is none))

pub returns-clause-once : goal.returns-clause-once
returns-clause-once c = spells_once c.args.bytes.now
