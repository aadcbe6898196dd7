use Rattle.std.proofs.Common.{◌≡◌, drop, map}
use Rattle.serde_json.specs.Data.{no_members}
use Rattle.serde_json.specs.View.{members_view}
use Rattle.thread_registers.specs.Threads.{named_of}
use Rattle.thread_registers.specs.Trees.{registers_put}
use Rattle.thread_registers.proofs.tree.object_of.Given as goal

abbrev pub invariant-loop-register : goal.invariant-loop-register
invariant-loop-register l =
    registers_put (map named_of (drop l.register-index l.registers)) (members_view l.members.entries)
    ≡ registers_put (map named_of l.registers) no_members
