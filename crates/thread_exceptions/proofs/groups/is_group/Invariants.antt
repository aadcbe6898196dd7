use Rattle.std.proofs.Common.{length, ◌+◌}
use Rattle.thread_exceptions.specs.Groups.{grouped_at, is_group_at}
use Rattle.thread_exceptions.proofs.Groupings.{Searching}
use Rattle.thread_exceptions.proofs.groups.is_group.Given as goal

abbrev pub invariant-loop-base : goal.invariant-loop-base
invariant-loop-base g l = Searching (λ m. grouped_at l.places m) (λ m. is_group_at l.places m l.class) l.base-items 65
    (g.P.ProcessMemory.seen l.fn.process) (g.P.ProcessMemory.seen l.process) l.base-index
