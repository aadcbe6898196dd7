use Rattle.std.proofs.Common.{arith}
use Rattle.process_memory.proofs.Reading.{reading_gives, reading_then}
use Rattle.thread_names.specs.Active.{active_at}
use Rattle.thread_names.specs.Told.{names_told}
use Rattle.thread_names.proofs.NameSteps.{lost_step}
use Rattle.thread_names.proofs.names.read_thread_names.Goals as goal

pub returns-in-Ok : goal.returns-in-Ok
unfolding names_told
returns-in-Ok g c =
    reading_gives _ _ (reading_then _ c.in-Ok.ensures.answer c.named_by_active.ensures (λ m a b. rw a.is b))
    (omega arith) (λ m h. h)

pub returns-in-Err : goal.returns-in-Err
unfolding names_told
returns-in-Err g c =
    reading_gives _ _ c.in-Err.ensures.answer (omega arith)
    (λ m a. lost_step c.args.layout.now c.args.rule.now m c.args.interpreter c.args.ids.now
    (active_at c.args.layout.now m c.args.interpreter) c.in-Err.fault c.without_dict.result a.is c.without_dict.ensures)
