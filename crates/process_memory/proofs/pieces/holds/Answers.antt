use Rattle.std.proofs.Common.{◌+◌, arith, take}
use Rattle.process_memory.proofs.Stretch.{run_fits, held_more}
use Rattle.process_memory.proofs.RunParts.{part_bytes}
use Rattle.process_memory.proofs.pieces.holds.Goals as goal

pub loop-done-preserved : goal.loop-done-preserved
loop-done-preserved g c =
    let i = c.loop-done.invariant in
    let run = c.in-Some.run'.now in
    let size = c.min-done.result in
    let at = c.args.addr + c.loop-done.done in
    let part = part_bytes _ at run size (omega arith) c.in-Some.ensures.bytes in
    let some = c.in-Some.ensures.some in
    record {
      within = omega arith;
      fits = omega (arith, part.0, run_fits _ at (take size run) (omega (arith, part.0)) part.1);
      held = λ k less. held_more _ c.args.addr c.loop-done.done (take size run) i.held part.1 k (omega (arith, part.0, less));
    }
