use Rattle.std.proofs.Common.{◌∙◌, ap, inl, refl, subst}
use Rattle.std.proofs.lemmas.Result.{err_from_is_err_and}
use Rattle.salvage_words.specs.Seen.{asked_salvage}
use Rattle.salvage_report.specs.Outcome.{IsAnswer, IsSalvagedBy}
use Rattle.named_images.specs.Named.{contents, images_read}
use Rattle.py_layout.specs.File.{IsRightFor}
use Rattle.salvage_report.specs.declared.cause.Cause.TheVariants.{Layouts}
use Rattle.salvage_report.proofs.Comes.{after}
use Rattle.salvage_report.proofs.left.salvage_over.Goals as goal

pub returns-in_err-layouts : goal.returns-in_err-layouts
returns-in_err-layouts c =
    let p = err_from_is_err_and c.from_residual.result c.from_residual.ensures.1 in
    let right = rw c.deref.ensures.value at c.in_err-layouts.ensures.right in
    rw (p.1, p.2) (λ ne. inl (c.in_err-layouts.field-0.0, refl, right))

pub returns-in_err-images : goal.returns-in_err-images
returns-in_err-images c =
    let p = err_from_is_err_and c.from_residual-in_err-images.result c.from_residual-in_err-images.ensures.1 in
    rw (p.1, p.2) (λ ne. absurd (ne refl))

pub returns : goal.returns
returns c =
    let s = asked_salvage c.args.words.now in
    let core = c.args.files.core.items in
    let says = rw c.deref.ensures.value at c.in_ok-layouts.ensures.right in
    let images = c.in_ok-images.ensures ∙ ap (λ w. images_read w (contents c.args.files.images.items))
    c.deref-2.ensures.value in
    after (λ error. Layouts error) (IsRightFor c.args.files.layouts.items)
    (IsSalvagedBy s c.args.tables.now core (images_read s.images (contents c.args.files.images.items)))
    c.in_ok-layouts.layouts c.salvage_core.result says
    (subst (λ i. IsAnswer (IsSalvagedBy s c.args.tables.now core i c.in_ok-layouts.layouts) c.salvage_core.result) images
    c.salvage_core.ensures)
