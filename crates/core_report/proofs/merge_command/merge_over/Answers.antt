use Rattle.std.proofs.Common.{◌∙◌, ℕ, Err, ap, inl, inr, refl, subst}
use Rattle.std.specs.Prelude.{Vec}
use Rattle.std.specs.Global.{Global}
use Rattle.std.proofs.lemmas.List.{length-map}
use Rattle.std.proofs.lemmas.Result.{err_from_is_err_and}
use Rattle.core_words.specs.Seen.{asked_merge}
use Rattle.core_report.specs.declared.cause.Cause.TheVariants.{Core}
use Rattle.core_report.specs.Outcome.{IsMergeOutcome, IsMergedBy, IsMergedIn, images_read}
use Rattle.core_report.specs.Reading.{contents, merge_contents}
use Rattle.core_report.specs.Stacks.{threads_stacked}
use Rattle.core_report.proofs.Threads.{merge_of, merged_over}
use Rattle.core_report.proofs.Weaker.{answer_weaker}
use Rattle.core_report.proofs.merge_command.merge_over.Goals as goal

pub returns-in_err-threads : goal.returns-in_err-threads
returns-in_err-threads c =
    let p = err_from_is_err_and c.from_residual-in_err-threads.result c.from_residual-in_err-threads.ensures.1 in
    let m = asked_merge c.args.words.now in
    let report = c.args.files.report in
    let text = c.args.files.addresses.items in
    let count = length-map report.images.items (λ (f : Vec ℕ Global). f.items) ∙ c.requires.images in
    let says = rw c.deref.ensures.value at c.in_ok-layouts.ensures.right in
    rw (p.1, p.2) (λ ne. merge_of m report.core.items report.layouts.items (contents report.images.items) text count
    (Err (Core c.in_err-threads.field-0.0)) (inr (
      c.in_ok-layouts.layouts,
      says,
      subst (λ images. IsMergedBy m report.core.items images text c.in_ok-layouts.layouts (Err (Core c.in_err-threads.field-0.0)))
          (c.in_ok-images.ensures ∙ ap (λ w. images_read w (contents report.images.items)) c.deref-2.ensures.value)
          (inl (c.in_err-threads.field-0.0, refl, c.in_err-threads.ensures.stacks)),
    )))

pub returns : goal.returns
returns c =
    let m = asked_merge c.args.words.now in
    let report = c.args.files.report in
    let text = c.args.files.addresses.items in
    let images = c.in_ok-images.images in
    let count = length-map report.images.items (λ (f : Vec ℕ Global). f.items) ∙ c.requires.images in
    let says = rw c.deref.ensures.value at c.in_ok-layouts.ensures.right in
    let core = c.in_ok-threads.threads.process.core in
    let s = threads_stacked c.in_ok-threads.threads in
    answer_weaker (IsMergedIn m.index core images c.deref-3.result.now s) (IsMergeOutcome m (merge_contents c.args.files))
    (λ o h. merged_over m report.core.items report.layouts.items (contents report.images.items) text images c.in_ok-layouts.layouts s
    count says (c.in_ok-images.ensures ∙ ap (λ w. images_read w (contents report.images.items)) c.deref-2.ensures.value)
    c.in_ok-threads.ensures.stacks o
    (subst (λ x. IsMergedIn m.index x images text s o) c.in_ok-threads.ensures.core
    (subst (λ t. IsMergedIn m.index core images t s o) c.deref-3.ensures.value h)))
    c.merged_in.result c.merged_in.ensures
