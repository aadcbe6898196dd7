use Rattle.std.proofs.Common.{◌-◌, length}
use Rattle.core_unwind.specs.Stacks.{Following}
use Rattle.core_unwind.specs.Marks.{IsStep}
use Rattle.core_unwind.proofs.walk.follow.Given as goal

abbrev pub invariant-frames : goal.invariant-frames
invariant-frames g l = Following (λ m. IsStep l.mappings l.manner m) l.limit l.first
    (g.P.ProcessMemory.seen l.initial.process) (g.P.ProcessMemory.seen l.process) l.frames.items l.state

abbrev pub decreases-frames : goal.decreases-frames
decreases-frames g l = l.limit - length l.frames.items
