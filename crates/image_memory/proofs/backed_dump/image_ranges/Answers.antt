use Rattle.std.proofs.Common.{◌≤◌, ◌+◌, ◌-◌, ◌^◌, sym, subst, arith}
use Rattle.image_memory.specs.Maps.{AreMaps}
use Rattle.image_memory.specs.declared.maps.CoreMapRange.{CoreMapRange}
use Rattle.image_memory.proofs.BackedRanges.{AreImageRanges-from, maps_end, ranges_from-all}
use Rattle.image_memory.proofs.backed_dump.image_ranges.Goals as goal

pub image_range-requires : goal.image_range-requires
image_range-requires c =
    let maps = c.deref-map-items.result.now in
    let are = subst (AreMaps c.args.core.now) (sym c.deref-map-items.ensures.value) c.maps-maps.ensures.are in
    subst (λ (m : CoreMapRange). m.segment.addr + m.segment.mem_size ≤ 2 ^ 64 - 1) (sym c.map-item.is)
    (maps_end c.args.core.now maps c.loop-index.index c.map-item.result c.places-places.ensures.held are c.loop-index-test.true)

pub returns-clause-are : goal.returns-clause-are
returns-clause-are c =
    let core = c.args.core.now in
    let maps = c.deref-map-items.result.now in
    let places = c.places-places.result.now in
    let are = subst (AreMaps core) (sym c.deref-map-items.ensures.value) c.maps-maps.ensures.are in
    AreImageRanges-from core c.args.images.now maps places c.loop-index.ranges.items are c.places-places.ensures.places
    (ranges_from-all c.args.images.now maps places c.loop-index.index c.loop-index.ranges.items _ (omega arith) c.loop-index.invariant.are)
