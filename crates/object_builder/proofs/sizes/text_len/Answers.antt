use Rattle.std.proofs.Common.{arith}
use Rattle.object_builder.specs.Sizes.{text_len}
use Rattle.object_builder.proofs.sizes.text_len.Goals as goal

pub returns-clause-value : goal.returns-clause-value
unfolding text_len
returns-clause-value c = omega (
  arith,
  c.max.ensures,
  c.max-record.ensures,
  c.from.ensures,
  c.characters_end.ensures.value,
)
