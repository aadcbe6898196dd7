use Rattle.std.proofs.Common.{arith, refl}
use Rattle.process_memory.proofs.Reading.{reading_short}
use Rattle.task_sets.specs.Sets.{referent_at}
use Rattle.process_memory.proofs.Reading.{reading_gives}
use Rattle.task_sets.proofs.SetSteps.{unread_known}
use Rattle.task_sets.proofs.sets.read_referent.Goals as goal

pub returns-in-Ok : goal.returns-in-Ok
unfolding referent_at
returns-in-Ok g c = reading_gives 1 _ (reading_short c.in-Ok.ensures.answer) (omega arith) (λ m a. record {
  is = rw
      a.is refl;
})

pub returns-in-Err : goal.returns-in-Err
unfolding referent_at
returns-in-Err g c = reading_gives 1 _ (reading_short c.in-Err.ensures.answer) (omega arith)
    (λ m a. unread_known c.args.reference _ c.in-Err.error c.unread.result a c.unread.ensures)
