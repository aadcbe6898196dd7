use Rattle.std.proofs.Common.{◌∙◌, arith}
use Rattle.image_builder.proofs.Names.{letter_file}
use Rattle.image_builder.proofs.seeded.file_name.Goals as goal

pub returns : goal.returns
returns c = c.in_ok-shared.ensures ∙ letter_file _ 109 c.args.number (omega arith) (omega (
  arith,
  c.ranges.number.fits,
)) c.in_ok-name.ensures.ok
