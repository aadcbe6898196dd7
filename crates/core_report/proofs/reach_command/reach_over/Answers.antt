use Rattle.std.proofs.Common.{◌∙◌, Err, ap, inl, inr, refl, subst}
use Rattle.std.proofs.lemmas.Result.{err_from_is_err_and}
use Rattle.core_words.specs.Seen.{asked_reach}
use Rattle.core_report.specs.declared.cause.Cause.TheVariants.{Core}
use Rattle.core_report.specs.Outcome.{IsReachOutcome, IsReachedBy, IsReachedIn, images_read}
use Rattle.core_report.specs.Reading.{contents, core_contents}
use Rattle.core_report.specs.Stacks.{stacked}
use Rattle.core_report.proofs.Leading.{reached_over}
use Rattle.core_report.proofs.Weaker.{answer_weaker}
use Rattle.core_report.proofs.reach_command.reach_over.Goals as goal

pub returns-in_err-stacks : goal.returns-in_err-stacks
returns-in_err-stacks c =
    let p = err_from_is_err_and c.from_residual-in_err-stacks.result c.from_residual-in_err-stacks.ensures.1 in
    let r = asked_reach c.args.words.now in
    let says = rw c.deref.ensures.value at c.in_ok-layouts.ensures.right in
    let core = c.args.files.core.items in
    rw (p.1, p.2) (λ ne. inr (
      c.in_ok-layouts.layouts,
      says,
      subst (λ images. IsReachedBy r core images c.in_ok-layouts.layouts (Err (Core c.in_err-stacks.field-0.0)))
          (c.in_ok-images.ensures ∙ ap (λ w. images_read w (contents c.args.files.images.items)) c.deref-2.ensures.value)
          (inl (c.in_err-stacks.field-0.0, refl, c.in_err-stacks.ensures)),
    ))

pub returns : goal.returns
returns c =
    let r = asked_reach c.args.words.now in
    let says = rw c.deref.ensures.value at c.in_ok-layouts.ensures.right in
    let s = stacked c.in_ok-stacks.stacks in
    let files = c.args.files in
    answer_weaker (IsReachedIn r.index s) (IsReachOutcome r (core_contents files))
    (reached_over r files.core.items files.layouts.items (contents files.images.items) _ c.in_ok-layouts.layouts s says
    (c.in_ok-images.ensures ∙ ap (λ w. images_read w (contents files.images.items)) c.deref-2.ensures.value) c.in_ok-stacks.ensures)
    c.reached_in.result c.reached_in.ensures
