use Rattle.std.proofs.Common.{arith, refl, rules}
use Rattle.process_memory.proofs.Reading.{reading_gives}
use Rattle.py_builtins.proofs.Consulted.{consulting_short}
use Rattle.py_stacks.specs.Holder.{holder_id_at}
use Rattle.py_fronts.proofs.LockSteps.{told_other}
use Rattle.py_fronts.proofs.lock.state_at.Goals as goal

pub returns-in-Ok-clause-answer : goal.returns-in-Ok-clause-answer
returns-in-Ok-clause-answer g c = reading_gives 2 _ (consulting_short c.in-Ok.ensures.answer) (omega arith) (λ m a. rw a.is refl)

pub returns-in-Err-Unreadable-clause-answer : goal.returns-in-Err-Unreadable-clause-answer
returns-in-Err-Unreadable-clause-answer g c =
    let lost = rw c.in-Err-Unreadable.field-0-is at c.in-Err-Unreadable.ensures.answer in
    reading_gives 2 _ (consulting_short lost) (omega arith) (λ m a. rw a.is refl)

pub returns-in-Err-OutOfMemory-clause-answer : goal.returns-in-Err-OutOfMemory-clause-answer
returns-in-Err-OutOfMemory-clause-answer g c = reading_gives 2 _ (consulting_short c.in-Err-OutOfMemory.ensures.answer) (omega arith) (λ m a. refl)

pub returns-in-Err : goal.returns-in-Err
returns-in-Err g c = record {
  answer = reading_gives 2 _ (consulting_short c.in-Err.ensures.answer) (omega arith)
      (λ m a. told_other (holder_id_at c.args.layout.now m c.args.lock) c.in-Err.field-0 (search rules) (search rules) a);
  memory = search rules;
}
