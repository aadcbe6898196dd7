use Rattle.std.proofs.Common.{◌≡◌, ◌++◌, map, take}
use Rattle.paired_stacks.specs.Frames.{is_step}
use Rattle.paired_stacks.proofs.frames.push_steps.Given as goal

abbrev pub invariant-loop-native : goal.invariant-loop-native
invariant-loop-native l = l.steps.items ≡ l.initial.steps.items ++ map (is_step l.own) (take l.native-index l.frames)
