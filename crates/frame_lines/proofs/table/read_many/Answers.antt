use Rattle.std.proofs.Common.{ap, arith}
use Rattle.std.specs.Prelude.{Ok}
use Rattle.process_memory.proofs.Reading.{reading_none}
use Rattle.frame_lines.proofs.Pieces.{many_long, many_past}
use Rattle.frame_lines.proofs.table.read_many.Goals as goal
use Rattle.frame_lines.proofs.table.read_many.Goals.{
  else-length-lt-LENGTH_LIMIT-via-then-length-lt-LENGTH_LIMIT+else-at-length-le-ADDRESSES,
  else-length-lt-LENGTH_LIMIT-via-else-length-lt-LENGTH_LIMIT,
}

pub returns-else-length-lt-LENGTH_LIMIT : goal.returns-else-length-lt-LENGTH_LIMIT
returns-else-length-lt-LENGTH_LIMIT g c =
    reading_none 512 _ _ (λ m. record {
      is = ap Ok (elim c.else-length-lt-LENGTH_LIMIT.branch [
        | else-length-lt-LENGTH_LIMIT-via-then-length-lt-LENGTH_LIMIT+else-at-length-le-ADDRESSES w ↦
            many_past m c.args.at c.args.length (omega arith)
        | else-length-lt-LENGTH_LIMIT-via-else-length-lt-LENGTH_LIMIT w ↦
            many_long m c.args.at c.args.length (omega arith)
      ]);
    })
