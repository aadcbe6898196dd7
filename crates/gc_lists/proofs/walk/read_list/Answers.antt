use Rattle.std.proofs.Common.{arith}
use Rattle.process_memory.specs.Memory.{byte_at}
use Rattle.process_memory.proofs.Reading.{reading_gives, reading_here}
use Rattle.gc_lists.specs.Links.{links_at}
use Rattle.gc_lists.specs.Walks.{most_members}
use Rattle.gc_lists.proofs.RingResults.{is_apart, is_once, is_only, is_right}
use Rattle.gc_lists.proofs.walk.read_list.Goals as goal

pub returns-clause-right : goal.returns-clause-right
returns-clause-right g c = reading_gives _ _ c.read_ring.ensures.is (omega arith)
    (λ m h. is_right (links_at c.args.mask m) c.args.heads.now most_members c.args.head c.read_ring.result h)

pub returns-clause-only : goal.returns-clause-only
returns-clause-only g c = reading_gives _ _ c.read_ring.ensures.is (omega arith)
    (λ m h other is. is_only (links_at c.args.mask m) c.args.heads.now most_members c.args.head c.read_ring.result h other is)

pub returns-clause-once : goal.returns-clause-once
returns-clause-once g c = is_once (links_at c.args.mask (byte_at (g.P.ProcessMemory.seen c.args.process.now).pieces)) c.args.heads.now most_members c.args.head c.read_ring.result (reading_here c.read_ring.ensures.is)

pub returns-clause-apart : goal.returns-clause-apart
returns-clause-apart g c = reading_gives _ _ c.read_ring.ensures.is (omega arith)
    (λ m e h other some there here is. is_apart (links_at c.args.mask m) c.args.heads.now most_members c.args.head c.read_ring.result e h other some there here is)
