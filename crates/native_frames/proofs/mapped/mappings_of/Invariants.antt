use Rattle.std.proofs.Common.{◌≡◌, ◌++◌, drop, map}
use Rattle.native_frames.specs.Mapped.{mapping_shown, mappings_from}
use Rattle.native_frames.specs.Tables.{row_of}
use Rattle.native_frames.proofs.mapped.mappings_of.Given as goal

abbrev pub invariant-loop-number : goal.invariant-loop-number
invariant-loop-number l =
    map mapping_shown l.mappings.items ++ mappings_from l.images l.number (map row_of (drop l.number l.rows))
    ≡ mappings_from l.images 0 (map row_of l.rows)
