use Rattle.std.proofs.Common.{rules}
use Rattle.python_literals.proofs.Hexes.{two_digits, four_digits, eight_digits}
use Rattle.python_literals.proofs.quotes.push_hex.Goals as goal

pub returns-then-point-lt256 : goal.returns-then-point-lt256
returns-then-point-lt256 c = search (rules, two_digits c.args.point)

pub returns-then-point-lt65536 : goal.returns-then-point-lt65536
returns-then-point-lt65536 c = search (rules, four_digits c.args.point)

pub returns : goal.returns
returns c = search (rules, eight_digits c.args.point)
