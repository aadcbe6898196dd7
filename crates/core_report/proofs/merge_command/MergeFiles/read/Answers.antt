use Rattle.std.proofs.Common.{[], ◌∷◌, ◌∙◌}
use Rattle.std.proofs.lemmas.Result.{err_from_is_err_and}
use Rattle.core_words.specs.Seen.{asked_merge}
use Rattle.core_words.specs.Words.{merge}
use Rattle.core_report.specs.Reading.{core_contents}
use Rattle.core_report.specs.declared.merge_command.MergeFiles.{MergeFiles}
use Rattle.program_run.proofs.Contents.{core_names, same_names}
use Rattle.core_report.proofs.Turns.{first_read, first_unread, is_unread, merge_has, merge_kept, merge_next, more}
use Rattle.core_report.proofs.merge_command.MergeFiles.read.Goals as goal

pub returns-in_err-report-clause-read : goal.returns-in_err-report-clause-read
returns-in_err-report-clause-read g c =
    let p = err_from_is_err_and c.from_residual.result c.from_residual.ensures.1 in
    let m = asked_merge c.args.words.now in
    let are = same_names _ _ _ _ _ _ c.as_bytes-core.ensures.value c.as_bytes-layouts.ensures.value c.deref.ensures.value in
    rw (p.1, p.2) (first_unread (g.F.Files.seen c.args.files.now) (g.F.Files.seen c.read.new.files) (merge m) _ _ c.in_err-report.field-0.0
    (merge_kept m _ are) c.in_err-report.ensures.read)

pub returns-in_err-addresses-clause-read : goal.returns-in_err-addresses-clause-read
returns-in_err-addresses-clause-read g c =
    let p = err_from_is_err_and c.from_residual-in_err-addresses.result c.from_residual-in_err-addresses.ensures.1 in
    let old = g.F.Files.seen c.args.files.now in
    let m = asked_merge c.args.words.now in
    let are = same_names _ _ _ _ _ _ c.as_bytes-core.ensures.value c.as_bytes-layouts.ensures.value c.deref.ensures.value in
    let names = core_names c.as_bytes-core.result.now c.as_bytes-layouts.result.now c.deref.result.now in
    let first = c.in_ok-report.ensures.read in
    rw (p.1, p.2) (is_unread old (g.F.Files.seen c.read.new.files) (g.F.Files.seen c.read_file.new.files) (merge m)
    (core_contents c.in_ok-report.report) _ c.in_err-addresses.field-0.0
    (first_read old.told (merge m) names (m.addresses ∷ []) (core_contents c.in_ok-report.report) (merge_kept m _ are) first.read)
    (merge_next m old.told _ (core_contents c.in_ok-report.report) _ are first.read c.as_bytes.ensures.value) first.failed
    c.in_err-addresses.ensures.trouble)

pub returns-clause-read : goal.returns-clause-read
returns-clause-read g c =
    let old = g.F.Files.seen c.args.files.now in
    let m = asked_merge c.args.words.now in
    let are = same_names _ _ _ _ _ _ c.as_bytes-core.ensures.value c.as_bytes-layouts.ensures.value c.deref.ensures.value in
    let names = core_names c.as_bytes-core.result.now c.as_bytes-layouts.result.now c.deref.result.now in
    let first = c.in_ok-report.ensures.read in
    let files : MergeFiles = record { report = c.in_ok-report.report; addresses = c.in_ok-addresses.addresses } in
    merge_has old (g.F.Files.seen c.read_file.new.files) m _ files are first.read
    (more old.told (g.F.Files.seen c.read.new.files).told (merge m) (core_contents c.in_ok-report.report) _ c.in_ok-addresses.addresses.items
    (first_read old.told (merge m) names (m.addresses ∷ []) (core_contents c.in_ok-report.report) (merge_kept m _ are) first.read)
    (merge_next m old.told _ (core_contents c.in_ok-report.report) _ are first.read c.as_bytes.ensures.value)
    c.read.ensures.told c.in_ok-addresses.ensures.given.0) (c.in_ok-addresses.ensures.given.1 ∙ first.failed)
