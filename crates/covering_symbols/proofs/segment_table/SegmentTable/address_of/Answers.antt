use Rattle.covering_symbols.specs.Covering.{holds_place}
use Rattle.covering_symbols.proofs.Segments.{found_passes}
use Rattle.covering_symbols.proofs.segment_table.SegmentTable.address_of.Goals as goal

pub address_by-requires : goal.address_by-requires
address_by-requires c = found_passes (holds_place c.args.place) c.args.self.now c.in_ok-segment.segment.now c.in_ok-segment.ensures
