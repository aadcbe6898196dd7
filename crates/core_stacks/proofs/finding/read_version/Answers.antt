use Rattle.std.proofs.Common.{refl}
use Rattle.std.proofs.lemmas.List.Elements.{All-contains}
use Rattle.std.proofs.lemmas.Result.{err_from_is_err_and}
use Rattle.std.proofs.Math.Nat.{le_refl}
use Rattle.process_memory.proofs.Reading.{reading_gives}
use Rattle.py_fields.specs.Sound.{Covers}
use Rattle.py_process.specs.Facts.{known_of}
use Rattle.core_stacks.specs.Seen.{IsCovered}
use Rattle.core_stacks.proofs.Steps.{covered_settles, version_fails, version_lacks}
use Rattle.core_stacks.proofs.finding.read_version.Goals as goal

pub returns-in_err-version-clause-settles : goal.returns-in_err-version-clause-settles
returns-in_err-version-clause-settles g c =
    let p = err_from_is_err_and c.from_residual.result c.from_residual.ensures.1 in
    reading_gives 3 _ c.in_err-version.ensures.right (le_refl _)
    (λ m h. version_fails m c.args.layouts.now (known_of c.args.info.now) IsCovered c.in_err-version.field-0.0 p.0 _ p.2 h p.1)

pub returns-in-Some-clause-settles : goal.returns-in-Some-clause-settles
returns-in-Some-clause-settles g c =
    reading_gives 3 _ c.in_ok-version.ensures.right (le_refl _)
    (λ m told. covered_settles m c.args.layouts.now (known_of c.args.info.now) c.in_ok-version.version c.in-Some.layout.now told
    (record { listed = c.in-Some.ensures.member; covers = c.in-Some.ensures.covers })
    (λ other x. c.in-Some.ensures.only other x.listed x.covers))

pub returns-in-None-clause-settles : goal.returns-in-None-clause-settles
returns-in-None-clause-settles g c =
    reading_gives 3 _ c.in_ok-version.ensures.right (le_refl _)
    (λ m told. version_lacks m c.args.layouts.now (known_of c.args.info.now) IsCovered c.in_ok-version.version _ told
    (λ l h. All-contains (λ layout. ¬ Covers layout c.in_ok-version.version) c.args.layouts.now l
    (c.in-None.ensures.none.0 refl) h.listed h.covers) refl)
