use Rattle.std.proofs.Common.{arith}
use Rattle.process_memory.proofs.Reading.{reading_gives}
use Rattle.thread_exceptions.specs.Exceptions.{what_at}
use Rattle.thread_exceptions.proofs.Uniqueness.{only_met}
use Rattle.thread_exceptions.proofs.discovery.read_closure.Goals as goal

pub returns-clause-only : goal.returns-clause-only
returns-clause-only g c = reading_gives _ _ c.discover.ensures (omega arith)
    (λ m h other is. only_met (what_at c.args.places.now m) c.args.limit c.args.roots.now c.discover.result h other is)
