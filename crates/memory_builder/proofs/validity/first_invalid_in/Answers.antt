use Rattle.std.proofs.Common.{ap, map}
use Rattle.std.specs.Prelude.{IsTrue}
use Rattle.memory_builder.specs.Mirror.{frame_in, program_thread}
use Rattle.memory_builder.proofs.Firsts.{first_by_itself, ok_call}
use Rattle.memory_builder.proofs.validity.first_invalid_in.Goals as goal

pub returns-then-not-is_valid_thread : goal.returns-then-not-is_valid_thread
returns-then-not-is_valid_thread c =
    first_by_itself c.args.family (map program_thread c.args.earlier.now) (program_thread c.args.thread.now)
    (λ h. let yes : IsTrue c.is_valid_thread.result = c.is_valid_thread.ensures.1 h in cc)

pub returns : goal.returns
returns c =
    ok_call c.args.family (map program_thread c.args.earlier.now) (program_thread c.args.thread.now)
    (c.is_valid_thread.ensures.0 c.if-not-is_valid_thread.false) c.first_invalid_frame.result
    (map frame_in c.deref.result.now) (ap (map frame_in) c.deref.ensures.value) c.first_invalid_frame.ensures
