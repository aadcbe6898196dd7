use Rattle.std.proofs.Common.{◌≡◌, ◌++◌, map, take}
use Rattle.paired_stacks.specs.Frames.{is_left_out}
use Rattle.paired_stacks.proofs.frames.push_hidden.Given as goal

abbrev pub invariant-loop-native : goal.invariant-loop-native
invariant-loop-native l = l.hidden.items
    ≡ l.initial.hidden.items ++ map (is_left_out l.own) (take l.native-index l.frames)
