use Rattle.std.proofs.Common.{ap, ◌∙◌}
use Rattle.std.specs.Prelude.{Err}
use Rattle.std.proofs.lemmas.Result.{err_from_is_err_and}
use Rattle.core_stacks.specs.Seen.{finding_in}
use Rattle.core_stacks.proofs.Searching.{version_ends, version_tries}
use Rattle.core_stacks.proofs.finding.find_process.Goals as goal

pub returns-in_err-version-clause-settles : goal.returns-in_err-version-clause-settles
returns-in_err-version-clause-settles g c =
    let p = err_from_is_err_and c.from_residual.result c.from_residual.ensures.1 in
    version_ends _ _ _ _ c.in_err-version.field-0.0 _ c.in_err-version.ensures.settles (ap finding_in (p.1 ∙ ap (λ e. Err e) p.2))

pub returns-clause-settles : goal.returns-clause-settles
returns-clause-settles g c =
    version_tries _ _ _ _ c.in_ok-version.version c.in_ok-version.layout _ c.in_ok-version.ensures.settles
    c.find_in.ensures.finds
