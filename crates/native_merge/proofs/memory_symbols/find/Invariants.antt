use Rattle.std.proofs.Common.{◌≡◌, length}
use Rattle.native_merge.specs.MemorySymbols.{answers_held, held_frames}
use Rattle.native_merge.proofs.memory_symbols.find.Given as goal

abbrev pub invariant-loop-rest : goal.invariant-loop-rest
invariant-loop-rest l = held_frames (answers_held l.rest) l.addr ≡ held_frames (answers_held l.answers) l.addr

abbrev pub decreases-loop-rest : goal.decreases-loop-rest
decreases-loop-rest l = length l.rest
