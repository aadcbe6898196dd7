use Rattle.std.proofs.Common.{map}
use Rattle.task_edges.specs.Edges.{sources_in}
use Rattle.task_edges.specs.Leading.{before}
use Rattle.task_edges.specs.Waits.{task_of}
use Rattle.task_edges.proofs.Answering.{kept_by_set}
use Rattle.task_edges.proofs.waits.waits_at.Goals as goal

pub returns-in-None : goal.returns-in-None
returns-in-None c = rw c.in-None.is at c.in_ok-found.ensures

pub returns-in_ok-list-in-Some : goal.returns-in_ok-list-in-Some
returns-in_ok-list-in-Some c =
    let found = rw c.in-Some.is at c.in_ok-found.ensures in (
      kept_by_set (before (sources_in c.args.index.now) c.args.tasks.now.keys) c.args.waiter c.in-Some.met
          (map task_of c.args.waiting.now) c.in_ok-list-in-Some.list.items found.0 c.in_ok-list-in-Some.ensures,
      found.1,
    )
