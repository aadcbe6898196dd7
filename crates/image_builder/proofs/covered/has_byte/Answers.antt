use Rattle.image_builder.proofs.Releases.{has_one}
use Rattle.image_builder.proofs.covered.has_byte.Goals as goal

pub returns : goal.returns
returns c = has_one c.byte_of.result c.is_some.result c.args.flags.now c.byte_of.ensures c.is_some.ensures
