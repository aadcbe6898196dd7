use Rattle.std.proofs.Common.{Err, Ok, ap, ap₂, inl, inr, refl, subst, ◌∙◌}
use Rattle.std.proofs.lemmas.Result.{err_from_is_err_and}
use Rattle.core_report.specs.Opening.{locate_text}
use Rattle.core_report.specs.Outcome.{OpensBy}
use Rattle.core_report.specs.Reading.{core_contents}
use Rattle.core_report.proofs.locate_command.locate_over.Goals as goal

pub returns-in_err-process : goal.returns-in_err-process
returns-in_err-process c =
    let p = err_from_is_err_and c.from_residual.result c.from_residual.ensures.1 in
    let error = c.in_err-process.field-0.0 in
    rw (p.1, p.2) (λ ne. inl (
      error,
      refl,
      subst (λ named. OpensBy named (core_contents c.args.files) (Err error))
          c.deref.ensures.value (c.in_err-process.ensures ne),
    ))

pub returns-in_err-text : goal.returns-in_err-text
returns-in_err-text c =
    let p = err_from_is_err_and c.from_residual-in_err-text.result c.from_residual-in_err-text.ensures.1 in
    rw (p.1, p.2) (λ ne. absurd (ne refl))

pub returns : goal.returns
returns c =
    let opens = subst (λ named. OpensBy named (core_contents c.args.files) (Ok c.in_ok-process.process))
    c.deref.ensures.value c.in_ok-process.ensures in
    inr (
      c.in_ok-process.process,
      opens,
      ap (λ t. Ok t) (c.in_ok-text.ensures ∙ ap₂ locate_text c.version.ensures c.addresses.ensures),
    )
