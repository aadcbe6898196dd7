use Rattle.std.proofs.Common.{◌∙◌, ◌∷◌, ap, refl}
use Rattle.std.proofs.lemmas.Result.{err_from_is_err_and}
use Rattle.core_words.specs.Seen.{asked_triage}
use Rattle.core_report.specs.Outcome.{images_read}
use Rattle.core_report.specs.Reading.{contents}
use Rattle.core_report.proofs.Grouping.{asks_cores, grouped, stopped_by}
use Rattle.core_report.proofs.Judging.{grouped_text}
use Rattle.core_report.proofs.triage_command.triage_over.Goals as goal

pub returns-in_err-layouts-clause-comes : goal.returns-in_err-layouts-clause-comes
returns-in_err-layouts-clause-comes g c read count =
    let p = err_from_is_err_and c.from_residual.result c.from_residual.ensures.1 in
    rw (p.1, p.2) (stopped_by (g.F.Files.seen c.args.files.now) (g.F.Files.seen c.args.files.now) (asked_triage c.args.words.now) c.args.read.layouts.items c.args.read.images.items c.in_err-layouts.field-0.0 read count refl c.in_err-layouts.ensures)

pub returns-in_err-judged-clause-comes : goal.returns-in_err-judged-clause-comes
returns-in_err-judged-clause-comes g c read count =
    let p = err_from_is_err_and c.from_residual-in_err-judged.result c.from_residual-in_err-judged.ensures.1 in
    let t = asked_triage c.args.words.now in
    let asks = asks_cores t c.args.read.layouts.items c.args.read.images.items c.in_ok-layouts.layouts count c.in_ok-layouts.ensures in
    rw (p.1, p.2) (c.in_err-judged.ensures.judged (c.args.read.layouts.items ∷ contents c.args.read.images.items) read asks)

pub returns-in_err-text-clause-comes : goal.returns-in_err-text-clause-comes
returns-in_err-text-clause-comes g c read count =
    let p = err_from_is_err_and c.from_residual-in_err-text.result c.from_residual-in_err-text.ensures.1 in
    let t = asked_triage c.args.words.now in
    let asks = asks_cores t c.args.read.layouts.items c.args.read.images.items c.in_ok-layouts.layouts count c.in_ok-layouts.ensures in
    let has = c.in_ok-judged.ensures.judged (c.args.read.layouts.items ∷ contents c.args.read.images.items) read asks in
    rw (p.1, p.2) (λ ne. absurd (ne refl), has.first.failed)

pub returns-clause-comes : goal.returns-clause-comes
returns-clause-comes g c read count =
    let t = asked_triage c.args.words.now in
    let asks = asks_cores t c.args.read.layouts.items c.args.read.images.items c.in_ok-layouts.layouts count c.in_ok-layouts.ensures in
    let has = c.in_ok-judged.ensures.judged (c.args.read.layouts.items ∷ contents c.args.read.images.items) read asks in
    let are = c.in_ok-images.ensures ∙ ap (λ w. images_read w (contents c.args.read.images.items)) c.deref.ensures.value in
    grouped _ _ t c.args.read.layouts.items c.args.read.images.items c.in_ok-layouts.layouts c.in_ok-images.images c.in_ok-judged.judged c.in_ok-text.field-0
    count c.in_ok-layouts.ensures are has (grouped_text _ _ t _ _ _ c.in_ok-judged.judged c.in_ok-text.field-0.items has c.in_ok-text.ensures.text_is c.in_ok-text.ensures.grouped)
