use Rattle.std.proofs.Common.{arith}
use Rattle.process_memory.proofs.Reading.{reading_gives}
use Rattle.py_heap.proofs.Same.{with_name}
use Rattle.py_heap.proofs.names.read_one.Goals as goal

pub returns : goal.returns
returns g c = reading_gives _ _ c.in_ok-name.ensures (omega arith) (λ m h. with_name c.args.counted.now _ _ h)
