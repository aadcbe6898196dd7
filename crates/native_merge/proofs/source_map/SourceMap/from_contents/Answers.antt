use Rattle.std.specs.Prelude.{option_map}
use Rattle.native_merge.specs.Paths.{cython_file}
use Rattle.native_merge.proofs.Marks.{map_ascends, maps_once}
use Rattle.native_merge.proofs.source_map.SourceMap.from_contents.Goals as goal

pub invariant_of-result : goal.invariant_of-result
invariant_of-result g c =
    map_ascends (cython_file (g.F.Sources.seen c.args.sources.now).exists c.args.cpp_filename.now (option_map (λ name. name.now) c.args.«module»))
    c.args.contents.now c.in-Ok.marks.items c.in-Ok.ensures.map

pub returns-in-Ok-clause-once : goal.returns-in-Ok-clause-once
returns-in-Ok-clause-once g c = maps_once

pub returns-in-Err-clause-once : goal.returns-in-Err-clause-once
returns-in-Err-clause-once g c = maps_once
