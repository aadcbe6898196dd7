use Rattle.std.proofs.Common.{refl}
use Rattle.std.proofs.Math.Nat.{le_refl}
use Rattle.process_memory.proofs.Reading.{reading_gives}
use Rattle.py_fronts.proofs.TableLineSteps.{table_is}
use Rattle.py_fronts.proofs.table_line.read_table.Goals as goal

pub returns-in-Ok-clause-answer : goal.returns-in-Ok-clause-answer
returns-in-Ok-clause-answer g c =
    reading_gives _ _ c.in-Ok.ensures.answer (le_refl 513)
    (λ m a. table_is c.args.layout.now m c.args.addr c.in-Ok.table a)

pub returns-in-Err-clause-answer : goal.returns-in-Err-clause-answer
returns-in-Err-clause-answer g c = reading_gives _ _ c.in-Err.ensures.answer (le_refl 513) (λ m a. refl)
