use Rattle.std.proofs.Common.{map, take}
use Rattle.task_edges.specs.Edges.{sources_in}
use Rattle.task_edges.specs.Leading.{before}
use Rattle.task_edges.specs.Waits.{AllWait, answer_of, task_of}
use Rattle.task_edges.proofs.waits.all_waits.Given as goal

abbrev pub invariant-loop-one : goal.invariant-loop-one
invariant-loop-one l =
    AllWait (before (sources_in l.index) l.tasks.keys) (map task_of l.waiting) l.limit (take l.one-index l.waiting)
    (map answer_of l.list.items)
