use Rattle.std.proofs.Common.{◌∙◌}
use Rattle.image_builder.proofs.Releases.{byte_tells}
use Rattle.image_builder.proofs.covered.byte_of.Goals as goal

pub returns : goal.returns
returns c = byte_tells c.release_byte.result c.args.flags.now c.as_bytes.result.now (c.as_bytes.ensures.value
    ∙ c.as_str.ensures) c.release_byte.ensures
