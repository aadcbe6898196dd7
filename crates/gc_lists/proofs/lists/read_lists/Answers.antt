use Rattle.std.proofs.Common.{arith}
use Rattle.process_memory.specs.Memory.{byte_at}
use Rattle.process_memory.proofs.Reading.{reading_gives, reading_here}
use Rattle.gc_lists.proofs.ListLaws.{told_once, told_only, told_right}
use Rattle.gc_lists.proofs.lists.read_lists.Goals as goal

pub returns-clause-right : goal.returns-clause-right
returns-clause-right g c = reading_gives _ _ c.read_told.ensures (omega arith)
    (λ m h. told_right c.args.places.now c.args.bases.now m c.args.base c.read_told.result h)

pub returns-clause-only : goal.returns-clause-only
returns-clause-only g c = reading_gives _ _ c.read_told.ensures (omega arith)
    (λ m h other is. told_only c.args.places.now c.args.bases.now m c.args.base c.read_told.result h other is)

pub returns-clause-apart : goal.returns-clause-apart
returns-clause-apart g c = told_once c.args.places.now c.args.bases.now (byte_at (g.P.ProcessMemory.seen c.args.process.now).pieces) c.args.base c.read_told.result (reading_here c.read_told.ensures)
