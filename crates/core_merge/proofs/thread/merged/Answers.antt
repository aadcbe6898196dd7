use Rattle.std.proofs.Common.{Err, ap, inl, inr, refl, sym, subst, ◌∙◌, ⊎_elim}
use Rattle.std.specs.List.{list_any}
use Rattle.std.proofs.lemmas.Result.{err_from_is_err_and}
use Rattle.normalize_core.specs.Targets.{overflows}
use Rattle.py_stacks.specs.Frames.{calls_of_result}
use Rattle.native_merge.specs.ImageSymbols.{files_mapped}
use Rattle.native_merge.specs.Merges.{is_python}
use Rattle.native_merge.specs.PythonFrames.{calls}
use Rattle.core_merge.specs.ImageMerges.{ImageMergeSays}
use Rattle.core_merge.proofs.Chain.{addresses_fail, all_go, entries_fail}
use Rattle.core_merge.proofs.thread.merged.Goals as goal

pub returns-in_err-addrs : goal.returns-in_err-addrs
returns-in_err-addrs c =
    let p = err_from_is_err_and c.from_residual.result c.from_residual.ensures.1 in
    addresses_fail c.args.core.now c.args.images.now (is_python c.args.python c.args.libpython) (calls c.args.frames.now)
    c.args.addresses.now c.in_err-addrs.field-0.0 c.from_residual.result c.in_err-addrs.ensures.right
    (p.1 ∙ ap (λ e. Err e) p.2)

pub returns-in_err-entries : goal.returns-in_err-entries
returns-in_err-entries c =
    let p = err_from_is_err_and c.from_residual-in_err-entries.result c.from_residual-in_err-entries.ensures.1 in
    entries_fail c.args.core.now c.args.images.now (is_python c.args.python c.args.libpython) (calls c.args.frames.now)
    c.args.addresses.now c.in_ok-addrs.addrs c.in_err-entries.field-0.0 c.from_residual-in_err-entries.result
    c.in_ok-addrs.ensures.right c.in_err-entries.ensures.right (p.1 ∙ ap (λ e. Err e) p.2)

pub returns-then-any_passes_end : goal.returns-then-any_passes_end
returns-then-any_passes_end c =
    let past = (λ i. list_any (overflows (sym c.deref.ensures.value i)) (sym c.deref-2.ensures.value i))
    ∙ sym c.any_passes_end.ensures ∙ c.if-any_passes_end.true in
    all_go c.args.core.now c.args.images.now (is_python c.args.python c.args.libpython) (calls c.args.frames.now)
    c.args.addresses.now c.in_ok-addrs.addrs c.in_ok-entries.entries _ c.in_ok-addrs.ensures.right
    c.in_ok-entries.ensures.right (inr (inl (past, refl)))

pub returns : goal.returns
returns c =
    let within = (λ i. list_any (overflows (sym c.deref.ensures.value i)) (sym c.deref-2.ensures.value i))
    ∙ sym c.any_passes_end.ensures ∙ c.if-any_passes_end.false in
    let python = is_python c.args.python c.args.libpython in
    all_go c.args.core.now c.args.images.now python (calls c.args.frames.now)
    c.args.addresses.now c.in_ok-addrs.addrs c.in_ok-entries.entries c.merge_images.result c.in_ok-addrs.ensures.right
    c.in_ok-entries.ensures.right
    (⊎_elim (λ wants. inl wants) (λ says. inr (inr (
      within,
      subst (λ es. ImageMergeSays (files_mapped es c.args.images.now) python (calls c.args.frames.now) c.in_ok-addrs.addrs.items
          (calls_of_result c.merge_images.result)) c.deref-3.ensures.value
          (subst (λ xs. ImageMergeSays (files_mapped c.deref-3.result.now c.args.images.now) python (calls c.args.frames.now) xs
          (calls_of_result c.merge_images.result)) c.deref-4.ensures.value says),
    ))) c.merge_images.ensures)
