use Rattle.std.proofs.Common.{ℕ, ◌↔◌, map, take}
use Rattle.std.specs.List.{Contains}
use Rattle.task_edges.specs.Waits.{task_of}
use Rattle.task_edges.proofs.waits.tasks_of.Given as goal

abbrev pub invariant-loop-one : goal.invariant-loop-one
invariant-loop-one l = (a : ℕ) → Contains l.tasks.keys a ↔ Contains (map task_of (take l.one-index l.waiting)) a
