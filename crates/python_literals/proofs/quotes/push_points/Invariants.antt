use Rattle.std.proofs.Common.{◌≡◌, ◌++◌, take, string_bytes}
use Rattle.std.specs.List.{flat_map}
use Rattle.python_literals.specs.Quotes.{point_text}
use Rattle.python_literals.proofs.quotes.push_points.Given as goal

abbrev pub invariant-loop-point : goal.invariant-loop-point
invariant-loop-point l = string_bytes l.text ≡ string_bytes l.initial.text ++ flat_map (point_text l.style l.quote)
    (take l.point-index l.points)
