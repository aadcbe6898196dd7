use Rattle.std.proofs.Common.{◌++◌, ap, refl}
use Rattle.std.proofs.lemmas.Result.{err_from_is_err_and}
use Rattle.salvage_words.specs.Seen.{asked_salvage}
use Rattle.program_run.specs.Reading.{core_contents}
use Rattle.program_run.proofs.Contents.{same_names}
use Rattle.salvage_report.specs.Reading.{bytes_of_records, core_files_of, one_or_none}
use Rattle.salvage_report.proofs.Comes.{caused, comes, troubled}
use Rattle.salvage_report.proofs.Recorded.{behind_records, both, by_name, widen}
use Rattle.salvage_report.proofs.command.text_of.Goals as goal

pub returns-in_err-records-in-Salvage-clause-comes : goal.returns-in_err-records-in-Salvage-clause-comes
returns-in_err-records-in-Salvage-clause-comes g c =
    let p = err_from_is_err_and c.from_residual-in_err-records-in-Salvage.result
    c.from_residual-in_err-records-in-Salvage.ensures.1 in
    let s = asked_salvage c.in-Salvage.words in
    let old = g.F.Files.seen c.args.files.now in
    rw (c.in-Salvage.is, p.1, p.2) (troubled old _ s _ c.in_err-records-in-Salvage.field-0.0 refl
    (widen old.told old _ (one_or_none s.records) (core_files_of s) _ c.in_err-records-in-Salvage.ensures.read))

pub returns-in_err-read-in-Salvage-clause-comes : goal.returns-in_err-read-in-Salvage-clause-comes
returns-in_err-read-in-Salvage-clause-comes g c =
    let p = err_from_is_err_and c.from_residual-in_err-read-in-Salvage.result
    c.from_residual-in_err-read-in-Salvage.ensures.1 in
    let s = asked_salvage c.in-Salvage.words in
    let old = g.F.Files.seen c.args.files.now in
    rw (c.in-Salvage.is, p.1, p.2) (troubled old _ s _ c.in_err-read-in-Salvage.field-0.0
    (ap (λ ns. one_or_none s.records ++ ns)
    (same_names _ s.core _ s.layouts _ s.images c.as_bytes-core.ensures c.as_bytes-layouts.ensures
    c.deref.ensures.value))
    (behind_records old _ _ s.records _ _ _ c.read_records.ensures.told c.in_ok-records-in-Salvage.ensures.read
    c.in_err-read-in-Salvage.ensures.read))

pub returns-in_err-salvage_with-in-Salvage-clause-comes : goal.returns-in_err-salvage_with-in-Salvage-clause-comes
returns-in_err-salvage_with-in-Salvage-clause-comes g c =
    let p = err_from_is_err_and c.from_residual-in_err-salvage_with-in-Salvage.result
    c.from_residual-in_err-salvage_with-in-Salvage.ensures.1 in
    let read = c.in_ok-read-in-Salvage in
    let given = c.in_ok-records-in-Salvage in
    let s = asked_salvage c.in-Salvage.words in
    let old = g.F.Files.seen c.args.files.now in
    rw (c.in-Salvage.is, p.1, p.2) (caused old _ s
    (one_or_none (bytes_of_records given.records) ++ core_contents read.read) _
    (ap (λ ns. one_or_none s.records ++ ns)
    (same_names _ s.core _ s.layouts _ s.images c.as_bytes-core.ensures c.as_bytes-layouts.ensures
    c.deref.ensures.value))
    (both old _ _ s.records _ _ _ c.read_records.ensures.told given.ensures.read read.ensures.read) _
    (λ ne. by_name old.told s.records given.records s (core_contents read.read) _ given.ensures.read.read
    (c.in_err-salvage_with-in-Salvage.ensures ne)))

pub returns-in_ok-salvage_with-in-Salvage-clause-comes : goal.returns-in_ok-salvage_with-in-Salvage-clause-comes
returns-in_ok-salvage_with-in-Salvage-clause-comes g c =
    let read = c.in_ok-read-in-Salvage in
    let given = c.in_ok-records-in-Salvage in
    let s = asked_salvage c.in-Salvage.words in
    let old = g.F.Files.seen c.args.files.now in
    let text = c.in_ok-salvage_with-in-Salvage.field-0 in
    rw c.in-Salvage.is (comes old _ s
    (one_or_none (bytes_of_records given.records) ++ core_contents read.read) _
    (ap (λ ns. one_or_none s.records ++ ns)
    (same_names _ s.core _ s.layouts _ s.images c.as_bytes-core.ensures c.as_bytes-layouts.ensures
    c.deref.ensures.value))
    (both old _ _ s.records _ _ _ c.read_records.ensures.told given.ensures.read read.ensures.read) text
    (by_name old.told s.records given.records s (core_contents read.read) _ given.ensures.read.read
    c.in_ok-salvage_with-in-Salvage.ensures))
