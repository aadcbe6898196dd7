use Rattle.std.proofs.Common.{◌+◌, ◌-◌, arith, take}
use Rattle.process_memory.proofs.Stretch.{run_fits, put_long, copied_more}
use Rattle.process_memory.proofs.RunParts.{part_bytes}
use Rattle.process_memory.proofs.pieces.fill.Goals as goal

pub loop-done-preserved : goal.loop-done-preserved
loop-done-preserved g c =
    let i = c.loop-done.invariant in
    let run = c.in-Some.run'.now in
    let size = c.min-size.result in
    let at = c.args.addr + c.loop-done.done in
    let part = part_bytes _ at run size (omega arith) c.in-Some.ensures.bytes in
    let some = c.in-Some.ensures.some in
    let put = c.copy_from_slice.ensures.after in
    let long = put_long c.loop-done.done (c.loop-done.done + size - c.loop-done.done) (take size run) c.copy_from_slice.new.self c.loop-done.buf put i.within in
    record {
      within = omega (arith, part.0, long);
      fits = omega (arith, part.0, run_fits _ at (take size run) (omega (arith, part.0)) part.1);
      copied = λ k less. copied_more _ c.args.addr c.loop-done.done _ (take size run) c.copy_from_slice.new.self c.loop-done.buf put i.within i.copied part.1 k
          (omega (arith, part.0, less));
    }
