use Rattle.std.proofs.Common.{arith, length, map}
use Rattle.elf64_core.specs.Notes.{noted}
use Rattle.process_memory.proofs.Reading.{reading_gives}
use Rattle.native_frames.specs.Limits.{most_reads}
use Rattle.native_stacks.proofs.Once.{stacks_only}
use Rattle.native_stacks.proofs.reading.read_native_stacks.Goals as goal

pub returns-clause-only : goal.returns-clause-only
returns-clause-only g c = λ ascends. reading_gives (most_reads (length c.args.notes.now)) _ c.read_stacks.ensures (omega arith)
    (λ m h other k. stacks_only c.args.core.now (map noted c.args.notes.now) c.args.images.now m c.args.pythons.now
    c.args.strict ascends c.read_stacks.result h other k)
