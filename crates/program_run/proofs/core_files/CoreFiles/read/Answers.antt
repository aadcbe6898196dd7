use Rattle.std.proofs.Common.{[], ◌∙◌, map, refl, subst}
use Rattle.std.proofs.lemmas.Result.{err_from_is_err_and}
use Rattle.outside.specs.Files.{Gives}
use Rattle.program_run.specs.Reading.{AreRead, contents}
use Rattle.program_run.proofs.Contents.{later, unread}
use Rattle.program_run.proofs.core_files.CoreFiles.read.Goals as goal

pub returns-in_err-core-clause-read : goal.returns-in_err-core-clause-read
returns-in_err-core-clause-read g c =
    let p = err_from_is_err_and c.from_residual.result c.from_residual.ensures.1 in
    let old = g.F.Files.seen c.args.files.now in
    rw (p.1, p.2) (unread old old (g.F.Files.seen c.read_file.new.files) _ [] _ [] _
    c.in_err-core.field-0.0 refl tt refl c.in_err-core.ensures.trouble)

pub returns-in_err-layouts-clause-read : goal.returns-in_err-layouts-clause-read
returns-in_err-layouts-clause-read g c =
    let p = err_from_is_err_and c.from_residual-in_err-layouts.result c.from_residual-in_err-layouts.ensures.1 in
    let old = g.F.Files.seen c.args.files.now in
    let one = g.F.Files.seen c.read_file.new.files in
    rw (p.1, p.2) (later old one (g.F.Files.seen c.read_file-2.new.files) _ _ c.in_ok-core.core.items
    c.in_err-layouts.field-0.0
    c.read_file.ensures.told c.in_ok-core.ensures.given.1 c.in_ok-core.ensures.given.0
    (unread one one (g.F.Files.seen c.read_file-2.new.files) _ [] _ [] _
    c.in_err-layouts.field-0.0 refl tt refl c.in_err-layouts.ensures.trouble))

pub returns-in_err-images-clause-read : goal.returns-in_err-images-clause-read
returns-in_err-images-clause-read g c =
    let p = err_from_is_err_and c.from_residual-in_err-images.result c.from_residual-in_err-images.ensures.1 in
    let old = g.F.Files.seen c.args.files.now in
    let one = g.F.Files.seen c.read_file.new.files in
    let two = g.F.Files.seen c.read_file-2.new.files in
    let new = g.F.Files.seen c.read_images.new.files in
    rw (p.1, p.2) (later old one new _ _ c.in_ok-core.core.items c.in_err-images.field-0.0
    c.read_file.ensures.told c.in_ok-core.ensures.given.1 c.in_ok-core.ensures.given.0
    (later one two new _ _ c.in_ok-layouts.layouts.items c.in_err-images.field-0.0
    c.read_file-2.ensures.told c.in_ok-layouts.ensures.given.1 c.in_ok-layouts.ensures.given.0
    c.in_err-images.ensures.read))

pub returns-clause-read : goal.returns-clause-read
returns-clause-read g c =
    let told = c.read_file-2.ensures.told ∙ c.read_file.ensures.told in
    let rest = c.in_ok-images.ensures.read in
    record {
      read = (
        c.in_ok-core.ensures.given.0,
        (
          subst (λ t. Gives t c.args.layouts.now c.in_ok-layouts.layouts.items) c.read_file.ensures.told
              c.in_ok-layouts.ensures.given.0,
          subst (λ t. AreRead t (map (λ image. image.1) c.args.images.now) (contents c.in_ok-images.images.items))
              told rest.read,
        ),
      );
      failed = rest.failed ∙ c.in_ok-layouts.ensures.given.1 ∙ c.in_ok-core.ensures.given.1;
    }
