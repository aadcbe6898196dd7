use Rattle.std.proofs.Common.{◌≡◌, map, take}
use Rattle.core_triage.specs.Keys.{compared_frame, thread_compared}
use Rattle.core_triage.proofs.key.thread_key.Given as goal

abbrev pub invariant-loop-frame : goal.invariant-loop-frame
invariant-loop-frame l = thread_compared l.frames ≡ map compared_frame (take l.frame-index l.frame-items)
