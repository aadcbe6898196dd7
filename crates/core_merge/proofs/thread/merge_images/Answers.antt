use Rattle.std.proofs.Common.{Err, ⊎_elim, inr, refl, ap, sym, subst, ◌∙◌}
use Rattle.native_merge.specs.ImageSymbols.{files_mapped}
use Rattle.native_merge.specs.Merges.{is_python}
use Rattle.native_merge.specs.PythonFrames.{calls}
use Rattle.core_merge.specs.ImageMerges.{IsImageMerge}
use Rattle.core_merge.proofs.Merging.{not_wanting, not_wanting_either, stack_merges}
use Rattle.core_merge.proofs.thread.merge_images.Goals as goal

pub returns-in-Ok : goal.returns-in-Ok
returns-in-Ok c = inr (⊎_elim (λ e. absurd (not_wanting _ e))
    (λ h. stack_merges (files_mapped c.args.entries.now c.args.images.now) _ _ _ c.args.python c.args.libpython _ _ _ _ _ _ _ _ _
    (c.in_ok-stack.ensures.symbols.0 ∙ c.new-symbols.ensures) c.in_ok-stack.ensures.python.0 c.in_ok-stack.ensures.python.1
    c.in_ok-stack.ensures.cache.0 c.in_ok-stack.ensures.cache.1 refl c.in-Ok.ensures.told h) c.in-Ok.ensures.merges)

pub returns-in-Err-Mismatch : goal.returns-in-Err-Mismatch
returns-in-Err-Mismatch c =
    let files = files_mapped c.args.entries.now c.args.images.now in
    inr (⊎_elim (λ e. absurd (not_wanting_either _ _ (sym (ap (λ x. Err x) c.in-Err-Mismatch.field-0-is) ∙ e)))
    (λ h. subst (λ e. IsImageMerge files (is_python c.args.python c.args.libpython) (calls c.args.frames.now) c.args.addrs.now (Err e))
    c.in-Err-Mismatch.field-0-is
    (stack_merges files _ _ _ c.args.python c.args.libpython _ _ _ _ _ _ _ _ _
    (c.in_ok-stack.ensures.symbols.0 ∙ c.new-symbols.ensures) c.in_ok-stack.ensures.python.0 c.in_ok-stack.ensures.python.1
    c.in_ok-stack.ensures.cache.0 c.in_ok-stack.ensures.cache.1 refl c.in-Err-Mismatch.ensures.told h)) c.in-Err-Mismatch.ensures.merges)
