use Rattle.native_merge.proofs.FileMaps.{files_map_once}
use Rattle.native_merge.proofs.source_map.SourceMap.new.Goals as goal

pub returns-in_err-map-clause-once : goal.returns-in_err-map-clause-once
returns-in_err-map-clause-once g c = files_map_once

pub returns-in-Known-clause-once : goal.returns-in-Known-clause-once
returns-in-Known-clause-once g c = files_map_once

pub returns-in-Unread-clause-once : goal.returns-in-Unread-clause-once
returns-in-Unread-clause-once g c = files_map_once
