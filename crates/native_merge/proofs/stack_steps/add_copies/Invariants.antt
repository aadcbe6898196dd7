use Rattle.std.proofs.Common.{◌≡◌, ◌++◌, take}
use Rattle.native_merge.specs.PythonFrames.{calls}
use Rattle.native_merge.proofs.stack_steps.add_copies.Given as goal

abbrev pub invariant-loop-frame : goal.invariant-loop-frame
invariant-loop-frame l = calls l.made.items ≡ calls l.initial.made.items ++ calls (take l.frame-index l.frames)
