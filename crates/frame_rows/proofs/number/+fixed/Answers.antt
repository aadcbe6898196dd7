use Rattle.std.proofs.Common.{arith}
use Rattle.frame_rows.proofs.Numbers.{eight_more, at_most_64}
use Rattle.frame_rows.proofs.number.+fixed.Goals as goal

pub overflow_mul-result : goal.overflow_mul-result
overflow_mul-result t c = omega (
  arith,
  eight_more c.args.size 0 c.in_ok-high.high.value c.if-size-eq0.false
      (omega arith) c.in_ok-high.ensures.small,
  at_most_64 c.args.size c.requires,
)

pub overflow_add-result : goal.overflow_add-result
overflow_add-result t c = omega (
  arith,
  eight_more c.args.size c.from.result c.in_ok-high.high.value c.if-size-eq0.false
      (omega arith) c.in_ok-high.ensures.small,
  at_most_64 c.args.size c.requires,
)

pub returns-clause-small : goal.returns-clause-small
returns-clause-small t c = eight_more c.args.size c.from.result c.in_ok-high.high.value c.if-size-eq0.false
    (omega arith) c.in_ok-high.ensures.small
