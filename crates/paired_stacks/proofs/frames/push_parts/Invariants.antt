use Rattle.std.proofs.Common.{◌≡◌, ◌++◌, drop}
use Rattle.paired_stacks.specs.Frames.{parts_from}
use Rattle.paired_stacks.proofs.frames.push_parts.Given as goal

abbrev pub invariant-loop-native : goal.invariant-loop-native
invariant-loop-native l = l.parts.items ++ parts_from l.own l.from (drop l.native-index l.frames)
    ≡ l.initial.parts.items ++ parts_from l.own l.fn.start l.frames
