use Rattle.std.proofs.Common.{◌≡◌, map, take}
use Rattle.program_run.specs.Reading.{AreRead, contents}
use Rattle.program_run.proofs.reading.read_images.Given as goal

abbrev pub invariant-loop-image : goal.invariant-loop-image
invariant-loop-image g l = record {
  told : (g.F.Files.seen l.files).told ≡ (g.F.Files.seen l.fn.files).told;
  failed : (g.F.Files.seen l.files).failed ≡ (g.F.Files.seen l.fn.files).failed;
  read : AreRead (g.F.Files.seen l.fn.files).told (map (λ image. image.1) (take l.image-index l.images))
      (contents l.read.items);
}
