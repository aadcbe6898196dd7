use Rattle.std.proofs.Common.{take}
use Rattle.std.specs.List.{flat_map}
use Rattle.native_merge.specs.Gathered.{GathersMore}
use Rattle.native_merge.specs.NativesShown.{items_met}
use Rattle.native_merge.specs.Sources.{Stay}
use Rattle.native_merge.proofs.gathered.add_natives.Given as goal

abbrev pub invariant-loop-native : goal.invariant-loop-native
invariant-loop-native g l = record {
  stay : Stay (g.F.Sources.seen l.initial.sources) (g.F.Sources.seen l.sources);
  more : GathersMore (g.F.Sources.seen l.initial.sources).exists l.frames
      (flat_map (items_met l.is_python) (take l.native-index l.natives)) l.initial.made.items l.initial.at l.made.items l.at;
}
