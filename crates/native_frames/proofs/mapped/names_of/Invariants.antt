use Rattle.std.proofs.Common.{◌≡◌, take, map}
use Rattle.native_frames.specs.Mapped.{names_of}
use Rattle.native_frames.specs.Tables.{row_of}
use Rattle.native_frames.proofs.mapped.names_of.Given as goal

abbrev pub invariant-loop-row : goal.invariant-loop-row
invariant-loop-row l = l.names.items ≡ names_of (map row_of (take l.row-index l.rows))
