use Rattle.std.proofs.Common.{take}
use Rattle.py_process.proofs.NamedVersions.{ToldSoFar}
use Rattle.py_process.proofs.named_version.only_numbers.Given as goal

abbrev pub invariant-loop-map : goal.invariant-loop-map
invariant-loop-map l = ToldSoFar (take l.map-index l.maps) l.told
