use Rattle.std.proofs.Common.{subst}
use Rattle.std.proofs.Math.Nat.{le_refl}
use Rattle.std.specs.Prelude.{Ok, Err}
use Rattle.process_memory.proofs.Reading.{reading_gives}
use Rattle.py_process.proofs.Telling.{told_is, version_by}
use Rattle.py_process.specs.Facts.{known_of}
use Rattle.py_process.specs.Sources.{FirstTells, sources_of}
use Rattle.py_process.specs.declared.version_error.VersionError.TheVariants.{NotFound}
use Rattle.py_process.proofs.python_version.get_python_version.Goals as goal

pub returns-in-Ok-Some-clause-only : goal.returns-in-Ok-Some-clause-only
returns-in-Ok-Some-clause-only g c =
    let sources = sources_of (known_of c.args.info.now) in
    reading_gives 3 _ c.in-Ok-Some.ensures (le_refl _) (λ m t told first. told_is m sources (Ok c.in-Ok-Some.version) told (subst (λ o. FirstTells m sources (Ok o)) c.in-Ok-Some.field-0-is t) first)

pub returns-in-Ok-None-clause-only : goal.returns-in-Ok-None-clause-only
returns-in-Ok-None-clause-only g c =
    let sources = sources_of (known_of c.args.info.now) in
    reading_gives 3 _ c.in-Ok-None.ensures (le_refl _) (λ m t told first. told_is m sources (Err NotFound) told (subst (λ o. FirstTells m sources (Ok o)) c.in-Ok-None.field-0-is t) first)

pub returns-in-Err-clause-only : goal.returns-in-Err-clause-only
returns-in-Err-clause-only g c =
    let sources = sources_of (known_of c.args.info.now) in
    reading_gives 3 _ c.in-Err.ensures (le_refl _) (λ m t told first. told_is m sources (Err c.in-Err.error) told (version_by m sources c.in-Err.error t) first)
