use Rattle.std.proofs.Common.{ap}
use Rattle.std.proofs.Math.Nat.{le_refl}
use Rattle.std.specs.Prelude.{Ok, unwrap_or}
use Rattle.process_memory.proofs.Reading.{reading_gives}
use Rattle.py_process.specs.Lock.{lock_address_of}
use Rattle.core_stacks.proofs.finding.find_lock.Goals as goal

pub returns-in-Ok : goal.returns-in-Ok
unfolding lock_address_of
returns-in-Ok g c = reading_gives 1 _ c.in-Ok.ensures.answer (le_refl _) (λ m h. h.0)

pub returns-in-Err-Unreadable : goal.returns-in-Err-Unreadable
unfolding lock_address_of
returns-in-Err-Unreadable g c =
    reading_gives 1 _ (rw c.in-Err-Unreadable.field-0-is at c.in-Err-Unreadable.ensures.answer) (le_refl _)
    (λ m h. ap (λ found. unwrap_or found (Ok 0)) h)

pub returns-in-Err-OutOfMemory : goal.returns-in-Err-OutOfMemory
returns-in-Err-OutOfMemory g c = reading_gives 1 _ c.in-Err-OutOfMemory.ensures.answer (le_refl _) (λ m h. tt)
