use Rattle.std.proofs.Common.{◌∙◌, ap, inl, inr, refl, subst}
use Rattle.std.specs.Prelude.{Err, Ok}
use Rattle.std.proofs.lemmas.Result.{err_from_is_err_and}
use Rattle.core_words.specs.Seen.{asked_dump}
use Rattle.core_report.specs.declared.cause.Cause.TheVariants.{Core}
use Rattle.core_report.specs.Outcome.{IsDumpedBy, images_read}
use Rattle.core_report.specs.Reading.{contents}
use Rattle.core_report.proofs.dump_command.dump_over.Goals as goal

pub returns-in_err-layouts : goal.returns-in_err-layouts
returns-in_err-layouts c =
    let p = err_from_is_err_and c.from_residual.result c.from_residual.ensures.1 in
    let right = rw c.deref.ensures.value at c.in_err-layouts.ensures.right in
    rw (p.1, p.2) (λ ne. inl (c.in_err-layouts.field-0.0, refl, right))

pub returns-in_err-images : goal.returns-in_err-images
returns-in_err-images c =
    let p = err_from_is_err_and c.from_residual-in_err-images.result c.from_residual-in_err-images.ensures.1 in
    rw (p.1, p.2) (λ ne. absurd (ne refl))

pub returns-in_err-report : goal.returns-in_err-report
returns-in_err-report c =
    let p = err_from_is_err_and c.from_residual-in_err-report.result c.from_residual-in_err-report.ensures.1 in
    let d = asked_dump c.args.words.now in
    let says = rw c.deref.ensures.value at c.in_ok-layouts.ensures.right in
    let core = c.args.files.core.items in
    rw (p.1, p.2) (λ ne. inr (
      c.in_ok-layouts.layouts,
      says,
      subst (λ images. IsDumpedBy d core images c.in_ok-layouts.layouts (Err (Core c.in_err-report.field-0.0))) (c.in_ok-images.ensures ∙ ap (λ w. images_read w (contents c.args.files.images.items)) c.deref-2.ensures.value)
          (inl (c.in_err-report.field-0.0, refl, c.in_err-report.ensures.right)),
    ))

pub returns-in_err-text : goal.returns-in_err-text
returns-in_err-text c =
    let p = err_from_is_err_and c.from_residual-in_err-text.result c.from_residual-in_err-text.ensures.1 in
    rw (p.1, p.2) (λ ne. absurd (ne refl))

pub returns : goal.returns
returns c =
    let d = asked_dump c.args.words.now in
    let says = rw c.deref.ensures.value at c.in_ok-layouts.ensures.right in
    inr (
      c.in_ok-layouts.layouts,
      says,
      subst (λ images. IsDumpedBy d c.args.files.core.items images c.in_ok-layouts.layouts (Ok c.in_ok-text.text.items)) (c.in_ok-images.ensures ∙ ap (λ w. images_read w (contents c.args.files.images.items)) c.deref-2.ensures.value)
          (inr (c.in_ok-report.report, c.in_ok-report.ensures.right, ap (λ t. Ok t) c.in_ok-text.ensures)),
    )
