use Rattle.std.proofs.Common.{◌≡◌, map, take}
use Rattle.paired_stacks.specs.Laid.{border_of}
use Rattle.paired_stacks.proofs.runs.borders_of.Given as goal

abbrev pub invariant-loop-run : goal.invariant-loop-run
invariant-loop-run l = l.borders.items ≡ map border_of (take l.run-index l.runs)
