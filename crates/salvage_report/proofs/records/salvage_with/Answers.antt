use Rattle.std.proofs.Common.{inl, refl, subst, ◌∙◌}
use Rattle.std.proofs.lemmas.Result.{err_from_is_err_and}
use Rattle.py_records.specs.File.{IsRightFor}
use Rattle.program_run.specs.Reading.{core_contents}
use Rattle.salvage_words.specs.Seen.{asked_salvage}
use Rattle.salvage_report.specs.Outcome.{IsAnswer, IsCoreOutcome}
use Rattle.salvage_report.specs.declared.cause.Cause.TheVariants.{Records}
use Rattle.salvage_report.proofs.Comes.{after}
use Rattle.salvage_report.proofs.records.salvage_with.Goals as goal

pub returns-in_err-tables : goal.returns-in_err-tables
returns-in_err-tables c =
    let p = err_from_is_err_and c.from_residual.result c.from_residual.ensures.1 in
    let right = rw c.deref.ensures.value at c.in_err-tables.ensures.right in
    rw (c.in-Some.is, p.1, p.2) (λ ne. inl (c.in_err-tables.field-0.0, refl, right))

pub returns : goal.returns
returns c =
    let says = rw c.deref.ensures.value at c.in_ok-tables.ensures.right in
    rw c.in-Some.is (after (λ error. Records error) (IsRightFor c.in-Some.text.items)
    (λ ts. IsCoreOutcome (asked_salvage c.args.words.now) ts (core_contents c.args.files))
    c.in_ok-tables.tables c.salvage_over-2.result says c.salvage_over-2.ensures)

pub returns-in_default : goal.returns-in_default
returns-in_default c =
    let empty = c.in-Ok.ensures.value ∙ c.new.ensures.items in
    rw c.in_default.is (subst
    (λ ts. IsAnswer (IsCoreOutcome (asked_salvage c.args.words.now) ts (core_contents c.args.files)) c.salvage_over.result)
    empty c.salvage_over.ensures)
