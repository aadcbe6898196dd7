use Rattle.std.proofs.Common.{◌≡◌, ◌∷◌, [], ◌∙◌, List, ℕ, map, refl, subst}
use Rattle.std.proofs.lemmas.Result.{err_from_is_err_and}
use Rattle.core_words.specs.Seen.{asked_triage}
use Rattle.program_run.specs.Reading.{AreRead, contents}
use Rattle.program_run.proofs.Contents.{later, unread}
use Rattle.core_report.specs.declared.triage_command.TriageFiles.{TriageFiles}
use Rattle.core_report.proofs.Turns.{triage_has, triage_unread}
use Rattle.core_report.proofs.triage_command.TriageFiles.read.Goals as goal

triage_same : (l m : List ℕ) (images pairs : List (List ℕ × List ℕ)) → l ≡ m → images ≡ pairs
    → l ∷ map (λ image. image.1) images ≡ m ∷ map (λ image. image.1) pairs
triage_same l m images pairs one two i = one i ∷ map (λ (image : List ℕ × List ℕ). image.1) (two i)

pub returns-in_err-layouts-clause-read : goal.returns-in_err-layouts-clause-read
returns-in_err-layouts-clause-read g c =
    let p = err_from_is_err_and c.from_residual.result c.from_residual.ensures.1 in
    let old = g.F.Files.seen c.args.files.now in
    let t = asked_triage c.args.words.now in
    rw (p.1, p.2) (triage_unread old (g.F.Files.seen c.read_file.new.files) t _ c.in_err-layouts.field-0.0
    (triage_same _ t.layouts t.images t.images c.as_bytes.ensures.value refl)
    (unread old old (g.F.Files.seen c.read_file.new.files) _ [] _ [] _ c.in_err-layouts.field-0.0 refl tt refl
    c.in_err-layouts.ensures.trouble))

pub returns-in_err-images-clause-read : goal.returns-in_err-images-clause-read
returns-in_err-images-clause-read g c =
    let p = err_from_is_err_and c.from_residual-in_err-images.result c.from_residual-in_err-images.ensures.1 in
    let old = g.F.Files.seen c.args.files.now in
    let mid = g.F.Files.seen c.read_file.new.files in
    let t = asked_triage c.args.words.now in
    rw (p.1, p.2) (triage_unread old (g.F.Files.seen c.read_images.new.files) t _ c.in_err-images.field-0.0
    (triage_same _ _ _ _ c.as_bytes.ensures.value c.deref.ensures.value)
    (later old mid (g.F.Files.seen c.read_images.new.files) _ _ c.in_ok-layouts.layouts.items c.in_err-images.field-0.0
    c.read_file.ensures.told c.in_ok-layouts.ensures.given.1 c.in_ok-layouts.ensures.given.0 c.in_err-images.ensures.read))

pub returns-clause-read : goal.returns-clause-read
returns-clause-read g c =
    let old = g.F.Files.seen c.args.files.now in
    let mid = g.F.Files.seen c.read_file.new.files in
    let t = asked_triage c.args.words.now in
    let rest = c.in_ok-images.ensures.read in
    let files : TriageFiles = record { layouts = c.in_ok-layouts.layouts; images = c.in_ok-images.images } in
    triage_has old (g.F.Files.seen c.read_images.new.files) t _ files
    (triage_same _ _ _ _ c.as_bytes.ensures.value c.deref.ensures.value) (
      c.in_ok-layouts.ensures.given.0,
      subst (λ told. AreRead told (map (λ image. image.1) c.deref.result.now) (contents c.in_ok-images.images.items)) c.read_file.ensures.told rest.read,
    )
    (rest.failed ∙ c.in_ok-layouts.ensures.given.1)
