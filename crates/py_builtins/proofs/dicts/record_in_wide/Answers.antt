use Rattle.std.proofs.Common.{arith}
use Rattle.process_memory.proofs.Reading.{reading_none}
use Rattle.process_memory.proofs.Records.{record_past}
use Rattle.py_builtins.proofs.dicts.record_in_wide.Goals as goal

pub returns-clause-answer : goal.returns-clause-answer
returns-clause-answer g c = reading_none 1 _ _ (λ m. record { is = record_past m c.args.addr _ (omega arith) (omega arith) })
