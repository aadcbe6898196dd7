use Rattle.std.proofs.Common.{Err, Ok, ap, inl, inr, refl, subst, ◌∙◌}
use Rattle.std.proofs.lemmas.Result.{err_from_is_err_and}
use Rattle.core_words.specs.Seen.{asked_walk}
use Rattle.core_texts.specs.Text.{walk_text}
use Rattle.core_stacks.specs.Answer.{Means, traced}
use Rattle.core_report.proofs.Turns.{source_says}
use Rattle.core_report.proofs.walk_command.walk_over.Goals as goal

pub returns-in_err-layouts : goal.returns-in_err-layouts
returns-in_err-layouts c =
    let p = err_from_is_err_and c.from_residual.result c.from_residual.ensures.1 in
    let w = asked_walk c.args.words.now in
    rw (p.1, p.2) (λ ne.
    let h = c.in_err-layouts.ensures ne in
    inl (h.0, ap Err h.1, source_says w c.args.files c.requires.kept _ h.2))

pub returns-in_err-version : goal.returns-in_err-version
returns-in_err-version c =
    let p = err_from_is_err_and c.from_residual-in_err-version.result c.from_residual-in_err-version.ensures.1 in
    rw (p.1, p.2) (λ ne. absurd (ne refl))

pub returns-in_err-traces : goal.returns-in_err-traces
returns-in_err-traces c =
    let p = err_from_is_err_and c.from_residual-in_err-traces.result c.from_residual-in_err-traces.ensures.1 in
    let w = asked_walk c.args.words.now in
    let says = source_says w c.args.files c.requires.kept (Ok c.in_ok-layouts.layouts) c.in_ok-layouts.ensures in
    rw (p.1, p.2) (λ ne. inr (
      c.in_ok-layouts.layouts,
      says,
      inl (
        c.in_err-traces.field-0.0,
        refl,
        subst (λ v. Means c.args.files.core.items c.in_ok-layouts.layouts v w.addresses (Err c.in_err-traces.field-0.0)) c.in_ok-version.ensures c.in_err-traces.ensures.right,
      ),
    ))

pub returns-in_err-text : goal.returns-in_err-text
returns-in_err-text c =
    let p = err_from_is_err_and c.from_residual-in_err-text.result c.from_residual-in_err-text.ensures.1 in
    rw (p.1, p.2) (λ ne. absurd (ne refl))

pub returns : goal.returns
returns c =
    let w = asked_walk c.args.words.now in
    let says = source_says w c.args.files c.requires.kept (Ok c.in_ok-layouts.layouts) c.in_ok-layouts.ensures in
    let traces = c.in_ok-traces.traces in
    let found = subst (λ v. Means c.args.files.core.items c.in_ok-layouts.layouts v w.addresses (traced (Ok traces))) c.in_ok-version.ensures c.in_ok-traces.ensures.right in
    let text = ap (λ bytes. bytes.items) c.into_bytes.ensures.value ∙ c.in_ok-text.ensures ∙ ap (λ v. walk_text v c.deref.result.now) c.in_ok-version.ensures ∙ ap (λ ts. walk_text w.version ts) c.deref.ensures.value in
    inr (c.in_ok-layouts.layouts, says, inr (traces, found, ap Ok text))
