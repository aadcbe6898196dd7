use Rattle.std.proofs.Common.{◌≡◌, ◌≤◌, ◌-◌, ◌++◌, ℕ, List}
use Rattle.image_memory.specs.Backed.{regions_of}
use Rattle.process_memory.specs.Memory.{byte_at}
use Rattle.core_slim.proofs.Pieces.{AreCopied}
use Rattle.core_slim.proofs.writing.add_piece.Given as goal

abbrev pub invariant-loop-done : goal.invariant-loop-done
invariant-loop-done l = record {
  within : l.done ≤ l.piece.len;
  copied : List ℕ;
  are : AreCopied (byte_at (regions_of l.dump)) l.piece.start l.done copied;
  bytes : l.bytes.items ≡ l.fn.bytes.items ++ copied;
}

abbrev pub decreases-loop-done : goal.decreases-loop-done
decreases-loop-done l = l.piece.len - l.done
