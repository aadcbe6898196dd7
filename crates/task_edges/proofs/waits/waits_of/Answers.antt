use Rattle.std.proofs.Common.{map}
use Rattle.task_edges.specs.Edges.{sources_in, sources_of}
use Rattle.task_edges.specs.Leading.{before}
use Rattle.task_edges.specs.Waits.{task_of}
use Rattle.task_edges.proofs.Answering.{all_are_only, all_right, same_direct}
use Rattle.task_edges.proofs.waits.waits_of.Goals as goal

pub returns-clause-right : goal.returns-clause-right
returns-clause-right c =
    let tasks = map task_of c.args.waiting.now in
    all_right (before (sources_in c.in_ok-index.index) c.in_ok-tasks.tasks.keys)
    (before (sources_of c.args.edges.now) tasks) tasks c.args.limit c.args.waiting.now c.all_waits.result
    (same_direct (sources_in c.in_ok-index.index) (sources_of c.args.edges.now) c.in_ok-tasks.tasks.keys tasks
    c.in_ok-index.ensures c.in_ok-tasks.ensures)
    c.all_waits.ensures

pub returns-clause-only : goal.returns-clause-only
returns-clause-only c =
    let tasks = map task_of c.args.waiting.now in
    all_are_only (before (sources_of c.args.edges.now) tasks) tasks c.args.limit c.args.waiting.now c.all_waits.result
    (all_right (before (sources_in c.in_ok-index.index) c.in_ok-tasks.tasks.keys)
    (before (sources_of c.args.edges.now) tasks) tasks c.args.limit c.args.waiting.now c.all_waits.result
    (same_direct (sources_in c.in_ok-index.index) (sources_of c.args.edges.now) c.in_ok-tasks.tasks.keys tasks
    c.in_ok-index.ensures c.in_ok-tasks.ensures)
    c.all_waits.ensures)
