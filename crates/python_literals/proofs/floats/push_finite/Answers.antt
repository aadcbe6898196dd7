use Rattle.python_literals.proofs.FloatFacts.{own_decimal}
use Rattle.python_literals.proofs.floats.push_finite.Goals as goal

pub returns : goal.returns
returns c = (
  c.format_finite_with_plus-shortest.result.now,
  c.in_ok-push_str.ensures.bytes,
  own_decimal c.args.x c.format_finite_with_plus-shortest.result.now c.requires c.format_finite_with_plus-shortest.ensures.parses,
)
