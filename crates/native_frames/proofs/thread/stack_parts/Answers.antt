use Rattle.std.proofs.Common.{arith}
use Rattle.process_memory.proofs.Reading.{reading_gives}
use Rattle.native_frames.specs.Limits.{thread_most}
use Rattle.native_frames.proofs.Once.{parts_only}
use Rattle.native_frames.proofs.thread.stack_parts.Goals as goal

pub returns-clause-only : goal.returns-clause-only
returns-clause-only g c = λ ascends. reading_gives thread_most _ c.read_parts.ensures.is (omega arith) (λ m h other k.
    parts_only c.args.mappings.now m ascends c.args.machine c.args.code_bits c.args.strict c.args.left c.args.first.now
    c.read_parts.result h other k)
