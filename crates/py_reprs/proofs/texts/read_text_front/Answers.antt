use Rattle.std.proofs.Common.{◌/◌, ◌+◌, arith, sym, ap, ◌∙◌}
use Rattle.std.proofs.lemmas.Result.{err_from_is_err_and}
use Rattle.process_memory.proofs.Reading.{reads_end, reads_halt, reads_known, reads_next}
use Rattle.py_builtins.specs.ObjectError.{object_fault}
use Rattle.py_reprs.proofs.Fewer.{few_units}
use Rattle.py_reprs.proofs.Views.{tree-Text}
use Rattle.py_reprs.specs.Texts.{points_of, text_front_at}
use Rattle.py_reprs.specs.Trees.Tree.{Text}
use Rattle.py_reprs.specs.declared.repr.TextForm.TheVariants as text_form
use Rattle.py_reprs.proofs.texts.read_text_front.Goals as goal

pub returns-in_err-bytes : goal.returns-in_err-bytes
unfolding text_front_at
returns-in_err-bytes g c =
    let p = err_from_is_err_and c.from_residual.result c.from_residual.ensures.1 in
    let bytes = rw (c.shown_length-count.ensures.value, c.width_of-width.ensures.value) at c.in_err-bytes.ensures in
    rw p.1 (reads_halt (c.args.limits.now.characters / 1024 + 1) p.0 _ bytes (ap object_fault p.2)
    (omega (arith, few_units c.args.length c.args.limits.now.characters c.args.characters.now.kind)))

pub returns-in_err-front : goal.returns-in_err-front
unfolding text_front_at
returns-in_err-front g c =
    let p = err_from_is_err_and c.from_residual-in_err-front.result c.from_residual-in_err-front.ensures.1 in
    let bytes = rw (c.shown_length-count.ensures.value, c.width_of-width.ensures.value) at c.in_ok-bytes.ensures in
    rw p.1 (reads_next {k = 0} (c.args.limits.now.characters / 1024 + 1) _ bytes (reads_known 0 _ _ (λ m. record { is = rw (ap object_fault p.2) tt }))
    (omega (arith, few_units c.args.length c.args.limits.now.characters c.args.characters.now.kind)))

pub returns : goal.returns
unfolding text_front_at
returns g c =
    let bytes = rw (c.shown_length-count.ensures.value, c.width_of-width.ensures.value) at c.in_ok-bytes.ensures in
    let points = c.in_ok-front.ensures ∙ ap (points_of c.args.characters.now.kind) c.deref.ensures.value in
    reads_next {k = 0} (c.args.limits.now.characters / 1024 + 1) _ bytes (reads_end 0 (sym (tree-Text _ _ _
    ∙ ap (λ front. Text text_form.Str front c.args.length) points)))
    (omega (arith, few_units c.args.length c.args.limits.now.characters c.args.characters.now.kind))
