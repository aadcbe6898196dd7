use Rattle.native_merge.specs.KeptMaps.{file_order}
use Rattle.native_merge.proofs.KeptByName.{nothing_in}
use Rattle.native_merge.proofs.source_maps.SourceMaps.new.Goals as goal

pub returns : goal.returns
returns c = nothing_in file_order c.new.result.entries c.new.ensures.empty
