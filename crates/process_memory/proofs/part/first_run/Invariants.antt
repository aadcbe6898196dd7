use Rattle.std.proofs.Common.{◌+◌, ◌-◌, ◌^◌, ◌<◌, ◌≤◌, map}
use Rattle.process_memory.specs.Pieces.{region_of}
use Rattle.process_memory.proofs.Stretch.{AreSkipped}
use Rattle.process_memory.proofs.part.first_run.Given as goal

abbrev pub invariant-loop-piece : goal.invariant-loop-piece
invariant-loop-piece l = record {
  some : 0 < l.reach;
  fits : l.addr + l.reach ≤ 2 ^ 64 - 1;
  skipped : AreSkipped (map region_of l.pieces) l.piece-index l.addr l.reach;
}
