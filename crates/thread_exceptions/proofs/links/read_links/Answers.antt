use Rattle.std.proofs.Common.{arith}
use Rattle.process_memory.proofs.Reading.{reading_gives}
use Rattle.thread_exceptions.proofs.FollowLaws.{is_right, is_only}
use Rattle.thread_exceptions.proofs.links.read_links.Goals as goal

pub returns-clause-right : goal.returns-clause-right
returns-clause-right g c = reading_gives _ _ c.follow.ensures (omega arith)
    (λ m h. is_right _ c.args.limit c.args.head c.follow.result h)

pub returns-clause-only : goal.returns-clause-only
returns-clause-only g c = reading_gives _ _ c.follow.ensures (omega arith)
    (λ m h other is. is_only _ c.args.limit c.args.head c.follow.result h other is)
