use Rattle.std.proofs.Common.{arith}
use Rattle.process_memory.proofs.Reading.{reading_none}
use Rattle.py_reprs.proofs.Pieces.{front_past}
use Rattle.py_reprs.proofs.fronts.read_front.Goals as goal

pub returns : goal.returns
returns g c = reading_none _ _ _ (λ m. front_past m c.args.at c.args.length (omega arith))
