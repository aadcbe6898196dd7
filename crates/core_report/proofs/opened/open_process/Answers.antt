use Rattle.std.proofs.Common.{Err, Ok, refl, subst}
use Rattle.std.proofs.lemmas.Result.{err_from_is_err_and}
use Rattle.core_report.specs.Opening.{OpenedIs}
use Rattle.core_report.proofs.opened.open_process.Goals as goal

pub returns-in_err-layouts : goal.returns-in_err-layouts
returns-in_err-layouts c =
    let p = err_from_is_err_and c.from_residual.result c.from_residual.ensures.1 in
    let right = rw c.deref.ensures.value at c.in_err-layouts.ensures.right in
    rw (p.1, p.2) (λ ne. right)

pub returns-in_err-images : goal.returns-in_err-images
returns-in_err-images c =
    let p = err_from_is_err_and c.from_residual-in_err-images.result c.from_residual-in_err-images.ensures.1 in
    rw (p.1, p.2) (λ ne. absurd (ne refl))

pub returns-in_err-process : goal.returns-in_err-process
returns-in_err-process c =
    let p = err_from_is_err_and c.from_residual-in_err-process.result c.from_residual-in_err-process.ensures.1 in
    let says = rw c.deref.ensures.value at c.in_ok-layouts.ensures.right in
    let core = c.args.files.core.items in
    rw (p.1, p.2) (λ ne. (
      c.in_ok-layouts.layouts,
      says,
      subst (λ images. OpenedIs core images c.in_ok-layouts.layouts (Err c.in_err-process.field-0.0))
          c.in_ok-images.ensures
          c.in_err-process.ensures,
    ))

pub returns : goal.returns
returns c =
    let says = rw c.deref.ensures.value at c.in_ok-layouts.ensures.right in
    let core = c.args.files.core.items in (
      c.in_ok-layouts.layouts,
      says,
      subst (λ images. OpenedIs core images c.in_ok-layouts.layouts (Ok c.in_ok-process.process))
          c.in_ok-images.ensures
          c.in_ok-process.ensures,
    )
