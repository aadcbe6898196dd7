use Rattle.std.proofs.Common.{rules}
use Rattle.python_literals.proofs.Hexes.{two_digits, four_digits, eight_digits}
use Rattle.exception_texts.specs.Unicode.{number_text}
use Rattle.exception_texts.proofs.unicode.push_hex.Goals as goal

pub returns-then-point-lt256 : goal.returns-then-point-lt256
unfolding number_text
returns-then-point-lt256 c = search (rules, two_digits c.args.point)

pub returns-then-point-lt65536 : goal.returns-then-point-lt65536
unfolding number_text
returns-then-point-lt65536 c = search (rules, four_digits c.args.point)

pub returns : goal.returns
unfolding number_text
returns c = search (rules, eight_digits c.args.point)
