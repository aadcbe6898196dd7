use Rattle.std.proofs.Common.{◌≡◌, ◌+◌, ◌*◌, ◌++◌, drop, map}
use Rattle.thread_registers.specs.Names.{name_of}
use Rattle.thread_registers.specs.Threads.{named_from, named_of}
use Rattle.thread_registers.proofs.registers.named_from.Given as goal

abbrev pub invariant-loop-name : goal.invariant-loop-name
invariant-loop-name l = (l.at ≡ 112 + 8 * l.name-index)
    × (map named_of l.registers.items ++ named_from (map name_of (drop l.name-index l.names)) l.status l.at
    ≡ named_from (map name_of l.names) l.status 112)
