use Rattle.std.proofs.Common.{[], ◌∷◌, ap, refl, sym}
use Rattle.std.proofs.lemmas.Result.{err_from_is_err_and}
use Rattle.program_run.proofs.Contents.{unread}
use Rattle.salvage_report.proofs.records.read_records.Goals as goal

pub returns-in_err-read_file-in-Some-clause-read : goal.returns-in_err-read_file-in-Some-clause-read
returns-in_err-read_file-in-Some-clause-read g c =
    let p = err_from_is_err_and c.from_residual.result c.from_residual.ensures.1 in
    let old = g.F.Files.seen c.args.files.now in
    rw (c.in-Some.is, p.1, p.2) (unread old old (g.F.Files.seen c.read_file.new.files) _ [] [] [] c.as_bytes.result.now
    c.in_err-read_file-in-Some.field-0.0 (ap (λ n. n ∷ []) (sym c.as_bytes.ensures)) tt refl
    c.in_err-read_file-in-Some.ensures.trouble)
