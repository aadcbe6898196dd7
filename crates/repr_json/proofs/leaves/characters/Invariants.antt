use Rattle.std.proofs.Common.{◌≡◌, take, string_bytes}
use Rattle.repr_json.specs.Leaves.{characters}
use Rattle.repr_json.proofs.leaves.characters.Given as goal

abbrev pub invariant-loop-point : goal.invariant-loop-point
invariant-loop-point l = string_bytes l.text ≡ characters (take l.point-index l.front)
