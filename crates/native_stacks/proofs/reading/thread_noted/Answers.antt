use Rattle.std.proofs.Common.{◌≡◌, refl, sym}
use Rattle.std.specs.Prelude.{Option, None}
use Rattle.std.proofs.lemmas.Result.{err_from_is_err_and}
use Rattle.elf64_core.specs.Notes.{noted}
use Rattle.process_memory.proofs.Reading.{reading_none}
use Rattle.native_frames.specs.Limits.{thread_most}
use Rattle.thread_registers.specs.Threads.{ThreadShown, thread_noted}
use Rattle.native_stacks.proofs.reading.thread_noted.Goals as goal

pub returns-in_err-known-clause-is : goal.returns-in_err-known-clause-is
returns-in_err-known-clause-is g c =
    let p = err_from_is_err_and c.from_residual.result c.from_residual.ensures.1 in
    rw p.1 (reading_none thread_most _ _ (λ m. tt))

pub returns-in-None-clause-is : goal.returns-in-None-clause-is
returns-in-None-clause-is g c =
    let none : ◌≡◌ {A = Option ThreadShown} (thread_noted c.args.machine c.args.pythons.now (noted c.args.note.now)) None =
    sym (rw c.in-None.is at c.in_ok-known.ensures) in
    reading_none thread_most _ _ (λ m. rw none refl)
