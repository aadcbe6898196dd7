use Rattle.std.proofs.Common.{arith, refl}
use Rattle.py_tasks.specs.Entries.{entry_at, known_at}
use Rattle.process_memory.proofs.Reading.{reading_gives}
use Rattle.py_tasks.proofs.Losts.{entry_lost}
use Rattle.py_tasks.proofs.entries.read_entry.Goals as goal

pub returns-in-Ok : goal.returns-in-Ok
unfolding entry_at
returns-in-Ok g c = reading_gives _ _ c.in-Ok.ensures (omega arith) (λ m a. record { is = rw a.is refl })

pub returns-in-Err : goal.returns-in-Err
unfolding entry_at
returns-in-Err g c = reading_gives _ _ c.in-Err.ensures (omega arith)
    (λ m a. entry_lost c.args.address (known_at c.args.layout.now c.args.described.now m c.args.limit c.args.address)
    c.in-Err.error _ a c.lost_entry.ensures)
