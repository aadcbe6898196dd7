use Rattle.std.proofs.Common.{◌≡◌, take}
use Rattle.repr_texts.proofs.names.points_of.Given as goal

abbrev pub invariant-loop-c : goal.invariant-loop-c
invariant-loop-c l = l.points.items ≡ take l.c-index l.chars
