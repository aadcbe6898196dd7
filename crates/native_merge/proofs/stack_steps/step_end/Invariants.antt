use Rattle.std.proofs.Common.{length, ◌-◌, ◌≡◌, ◌+◌, ◌≤◌, drop}
use Rattle.native_merge.specs.StackParts.{step_len}
use Rattle.native_merge.specs.PythonFrames.{is_marked}
use Rattle.native_merge.proofs.stack_steps.step_end.Given as goal

abbrev pub invariant-loop-at : goal.invariant-loop-at
invariant-loop-at l = record {
  within : l.at ≤ length l.frames;
  same : l.at + step_len is_marked (drop l.at l.frames) ≡ l.from + step_len is_marked (drop l.from l.frames);
}

abbrev pub decreases-loop-at : goal.decreases-loop-at
decreases-loop-at l = length l.frames - l.at
