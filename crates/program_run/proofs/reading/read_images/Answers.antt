use Rattle.std.proofs.Common.{◌+◌, ◌∷◌, [], ◌∙◌, ap, drop, map, take, refl, subst, sym}
use Rattle.std.proofs.lemmas.List.{map-append, take_all}
use Rattle.std.proofs.lemmas.Result.{err_from_is_err_and}
use Rattle.program_run.specs.Reading.{AreRead, contents}
use Rattle.program_run.proofs.Contents.{around, one_more, unread}
use Rattle.program_run.proofs.reading.read_images.Goals as goal

pub loop-image-init : goal.loop-image-init
loop-image-init g c = record {
  told = refl;
  failed = refl;
  read = subst (λ xs. AreRead (g.F.Files.seen c.args.files.now).told [] (contents xs)) (sym c.new-read.ensures.items)
      tt;
}

pub loop-image-preserved : goal.loop-image-preserved
loop-image-preserved g c =
    let i = c.loop-image.invariant in
    let pushed = ap contents c.in-Ok.ensures.items
    ∙ map-append (λ file. file.items) c.loop-image.read.items (c.in_ok-bytes.bytes ∷ []) in
    record {
      told = c.read_file.ensures.told ∙ i.told;
      failed = c.in_ok-bytes.ensures.given.1 ∙ i.failed;
      read = one_more _ _ (λ image. image.1) c.args.images.now c.loop-image.image-index c.image-item.result
          c.image-item.result
          (contents c.loop-image.read.items) (contents c.push.new.self.items) c.in_ok-bytes.bytes.items
          c.loop-image-test.true c.image-item.is i.read i.told (rw c.as_bytes.ensures at
          c.in_ok-bytes.ensures.given.0) pushed;
    }

pub returns-in_err-bytes-clause-read : goal.returns-in_err-bytes-clause-read
returns-in_err-bytes-clause-read g c =
    let p = err_from_is_err_and c.from_residual.result c.from_residual.ensures.1 in
    let i = c.loop-image.invariant in
    let images = c.args.images.now in
    rw (p.1, p.2) (unread (g.F.Files.seen c.args.files.now) (g.F.Files.seen c.loop-image.files) (g.F.Files.seen
    c.read_file.new.files)
    (map (λ image. image.1) images) (map (λ image. image.1) (take c.loop-image.image-index images))
    (map (λ image. image.1) (drop (c.loop-image.image-index + 1) images)) (contents c.loop-image.read.items)
    c.image-item.result.1 c.in_err-bytes.field-0.0
    (around (λ image. image.1) images c.loop-image.image-index c.image-item.result c.image-item.result
    c.loop-image-test.true c.image-item.is)
    i.read i.failed (rw c.as_bytes.ensures at c.in_err-bytes.ensures.trouble))

pub returns-clause-read : goal.returns-clause-read
returns-clause-read g c =
    let i = c.loop-image.invariant in
    record {
      read = subst (λ xs. AreRead (g.F.Files.seen c.args.files.now).told (map (λ image. image.1) xs) (contents
          c.loop-image.read.items))
          (take_all c.loop-image.image-index c.args.images.now c.loop-image-test.false) i.read;
      failed = i.failed;
    }
