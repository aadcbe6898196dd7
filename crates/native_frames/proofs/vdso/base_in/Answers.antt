use Rattle.std.proofs.Common.{◌/◌, ◌∙◌, arith, length, sym}
use Rattle.native_frames.proofs.Bases.{base_more}
use Rattle.native_frames.proofs.vdso.base_in.Goals as goal

pub loop-number-preserved : goal.loop-number-preserved
loop-number-preserved c =
    let vector = c.args.vector.now in
    let n = c.loop-number.number in
    record {
      within = omega (arith, c.loop-number-test.true);
      same = sym (base_more vector n (length vector / 16) (omega (arith, c.loop-number-test.true))
          (rw c.u64_in.ensures at c.if-u64_in-eq-BASE.false)) ∙ c.loop-number.invariant.same;
    }
