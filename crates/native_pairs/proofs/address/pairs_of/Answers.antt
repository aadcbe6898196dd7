use Rattle.std.proofs.Common.{◌∙◌, ap, arith}
use Rattle.native_pairs.specs.Pairs.{lies_by}
use Rattle.native_pairs.proofs.Paired.{lies_here, paired_more, runs_no, runs_yes}
use Rattle.native_pairs.proofs.address.pairs_of.Goals as goal
use Rattle.native_pairs.proofs.address.pairs_of.Goals.{then-has_run, else-has_run}

pub loop-part-preserved : goal.loop-part-preserved
loop-part-preserved c =
    let adds = c.in_ok-push.ensures.items in
    let here = lies_here c.args.parts.now c.args.borders.now c.loop-part.part-index c.loop-part.next _
    c.lies_in-has_run.result _
    c.loop-part-test.true c.lies_in-has_run.ensures c.border_at.ensures in
    let has =
    here ∙ ap (lies_by c.args.parts.now c.args.borders.now c.loop-part.part-index) c.loop-part.invariant.next in
    record {
      paired = paired_more (lies_by c.args.parts.now c.args.borders.now) c.loop-part.part-index c.loop-part.takes.items
          c.push.new.self.items c.lies_in-has_run.result c.loop-part.invariant.paired has adds;
      next = (elim c.if-has_run.branch [
        | then-has_run w ↦ omega (
          arith,
          w.next-is,
          c.loop-part.invariant.next,
          runs_yes c.loop-part.takes.items c.push.new.self.items c.lies_in-has_run.result adds w.if-has_run.true,
        )
        | else-has_run w ↦ omega (
          arith,
          w.next-is,
          c.loop-part.invariant.next,
          runs_no c.loop-part.takes.items c.push.new.self.items c.lies_in-has_run.result adds w.if-has_run.false,
        )
      ]);
      few = (elim c.if-has_run.branch [
        | then-has_run w ↦ omega (arith, w.next-is, c.loop-part.invariant.few)
        | else-has_run w ↦ omega (arith, w.next-is, c.loop-part.invariant.few)
      ]);
    }
