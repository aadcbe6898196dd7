use Rattle.std.specs.Bool.{IsTrue}
use Rattle.std.proofs.Common.{rules}
use Rattle.py_process.specs.Programs.{IsProgram}
use Rattle.core_stacks.proofs.FirstMaps.{first_here}
use Rattle.core_stacks.proofs.programs.first_program.Goals as goal

pub returns-then-is_program : goal.returns-then-is_program
returns-then-is_program c =
    let is : IsTrue c.is_program.result = search (rules, c.if-is_program.true) in
    first_here (λ m. IsProgram m) c.args.maps.now c.loop-map.map-index c.map-item.result c.loop-map-test.true c.map-item.is
    (c.is_program.ensures.0 is) c.loop-map.invariant
