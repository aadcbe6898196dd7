use Rattle.std.proofs.Common.{◌≡◌, map, take}
use Rattle.std.specs.BTreeSet.{contains}
use Rattle.std.specs.List.{filter}
use Rattle.std.specs.Ordering.{nat_cmp}
use Rattle.task_edges.specs.Waits.{task_of}
use Rattle.task_edges.proofs.waits.tasks_among.Given as goal

abbrev pub invariant-loop-one : goal.invariant-loop-one
invariant-loop-one l =
    l.list.items ≡ filter (contains nat_cmp l.addresses) (map task_of (take l.one-index l.waiting))
