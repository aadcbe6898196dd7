use Rattle.std.proofs.Common.{arith, take}
use Rattle.std.specs.List.{sum}
use Rattle.std.proofs.lemmas.List.Sums.{sum_by_more}
use Rattle.native_pairs.proofs.Items.{adds_more}
use Rattle.native_pairs.proofs.item.push_runs.Goals as goal

pub loop-size-preserved : goal.loop-size-preserved
loop-size-preserved c =
    let total = sum_by_more (λ x. x) c.args.runs.now c.loop-size.size-index _ c.loop-size-test.true in
    record {
      adds = adds_more c.args.items.now.items c.loop-size.items.items c.push_pythons.new.items.items c.args.from
          (sum (take c.loop-size.size-index c.args.runs.now)) _ c.loop-size.next _ c.loop-size.invariant.adds
          c.in_ok-next.ensures.adds c.loop-size.invariant.next total;
      next = omega (arith, c.in_ok-next.ensures.next, c.loop-size.invariant.next, total);
      few = c.in_ok-next.ensures.few;
    }
