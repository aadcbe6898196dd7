use Rattle.py_process.specs.Programs.{IsLibraryMap}
use Rattle.core_stacks.proofs.FirstMaps.{first_here, known_other, not_so, other_after, others_more}
use Rattle.core_stacks.proofs.programs.first_library.Goals as goal

pub is_new_library-requires : goal.is_new_library-requires
is_new_library-requires c = known_other c.args.maps.now c.loop-map.refused c.loop-map.map-index c.map-item.result c.loop-map.invariant.1 c.loop-map-test.true c.map-item.is

pub returns-then-is_new_library : goal.returns-then-is_new_library
returns-then-is_new_library c =
    first_here (λ m. IsLibraryMap m) c.args.maps.now c.loop-map.map-index c.map-item.result c.loop-map-test.true c.map-item.is
    (c.is_new_library.ensures.0 c.if-is_new_library.true) c.loop-map.invariant.0

pub loop-map-preserved : goal.loop-map-preserved
loop-map-preserved c =
    let other : ¬ IsLibraryMap c.map-item.result = not_so c.is_new_library.result (IsLibraryMap c.map-item.result) c.if-is_new_library.false c.is_new_library.ensures.1 in (
      others_more c.args.maps.now c.loop-map.map-index c.map-item.result c.loop-map-test.true c.map-item.is c.loop-map.invariant.0 other,
      other_after c.args.maps.now c.map-item.result c.requires c.loop-map.map-index c.loop-map.refused c.refused_after-refused.result c.loop-map-test.true c.map-item.is other c.loop-map.invariant.1 c.refused_after-refused.ensures,
    )
