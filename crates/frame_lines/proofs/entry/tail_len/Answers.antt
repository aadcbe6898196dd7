use Rattle.std.proofs.Common.{◌≡◌, ◌∙◌, drop, ap, arith}
use Rattle.std.proofs.lemmas.List.{drop_all}
use Rattle.frame_lines.specs.Entries.{tail_len}
use Rattle.frame_lines.proofs.Numbers.{tail_ends, tail_more, tail_none}
use Rattle.frame_lines.proofs.entry.tail_len.Goals as goal

pub returns-then-byte-ge128-clause-value : goal.returns-then-byte-ge128-clause-value
returns-then-byte-ge128-clause-value c = omega (
  arith,
  c.loop-i.invariant,
  tail_ends c.loop-i.i c.args.bytes.now
      (omega arith) (omega arith),
)

pub loop-i-preserved : goal.loop-i-preserved
loop-i-preserved c = omega (
  arith,
  c.loop-i.invariant,
  tail_more c.loop-i.i c.args.bytes.now
      (omega arith) (omega arith),
)

pub returns-clause-value : goal.returns-clause-value
returns-clause-value c =
    let none : tail_len (drop c.loop-i.i c.args.bytes.now) ≡ 0 =
    ap tail_len (drop_all c.loop-i.i c.args.bytes.now c.loop-i-test.false) ∙ tail_none in
    omega (arith, c.loop-i.invariant, none)
