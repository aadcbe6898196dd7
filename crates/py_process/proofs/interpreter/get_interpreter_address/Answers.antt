use Rattle.std.proofs.Common.{arith}
use Rattle.std.proofs.Math.Nat.{le_refl}
use Rattle.process_memory.specs.Memory.{byte_at}
use Rattle.process_memory.proofs.Reading.{reading_gives}
use Rattle.py_process.specs.Facts.{known_of}
use Rattle.py_process.proofs.Searches.{bound_most, first_found, not_found}
use Rattle.py_process.proofs.interpreter.get_interpreter_address.Goals as goal

pub returns-clause-first : goal.returns-clause-first
returns-clause-first g c =
    reading_gives _ _ c.find_interpreter.ensures (le_refl _)
    (λ m e. first_found (g.M.ContainsAddr.contains c.args.info.now.maps) (known_of c.args.info.now) c.args.version.now c.args.layout.now m c.find_interpreter.result e)

pub returns-clause-none : goal.returns-clause-none
returns-clause-none g c =
    reading_gives _ _ c.find_interpreter.ensures (le_refl _)
    (λ m e. not_found (g.M.ContainsAddr.contains c.args.info.now.maps) (known_of c.args.info.now) c.args.version.now c.args.layout.now m c.find_interpreter.result e)

pub returns-clause-most : goal.returns-clause-most
returns-clause-most g c =
    let m = byte_at (g.P.ProcessMemory.seen c.args.process.now).pieces in
    let k = known_of c.args.info.now in
    let contains = g.M.ContainsAddr.contains c.args.info.now.maps in
    omega (arith, c.find_interpreter.ensures.cost, bound_most contains k c.args.version.now c.args.layout.now m)
