use Rattle.std.proofs.Common.{◌≡◌, ℕ, take}
use Rattle.std.specs.Prelude.{All, Some}
use Rattle.py_process.specs.Programs.{IsLibraryMap}
use Rattle.core_stacks.proofs.FirstMaps.{NoLibraryAt}
use Rattle.core_stacks.proofs.programs.first_library.Given as goal

abbrev pub invariant-loop-map : goal.invariant-loop-map
invariant-loop-map l = All (λ m. ¬ IsLibraryMap m) (take l.map-index l.maps) × ((start : ℕ) → l.refused ≡ Some start → NoLibraryAt l.maps start)
