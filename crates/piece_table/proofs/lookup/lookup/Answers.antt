use Rattle.std.proofs.Common.{◌+◌, ◌-◌, ◌/◌, length, arith}
use Rattle.piece_table.proofs.Lookups.{Halving-more, Halving-none, HalvesIn-of, over_more, spans_none, under_more}
use Rattle.piece_table.proofs.lookup.lookup.Goals as goal

pub halves-init : goal.halves-init
halves-init g c =
    let count = c.len-high.ensures.count in
    record {
      spans = c.len-high.ensures.spans;
      ordered = omega arith;
      inside = omega arith;
      under = λ k d less. absurd (omega arith);
      over = λ k d le less. absurd (omega arith);
      halving = Halving-none (length c.args.table.now) (c.len-high.result - 0) c.args.steps.now (omega arith);
    }

pub halves-preserved-then-addr-entry : goal.halves-preserved-then-addr-entry
halves-preserved-then-addr-entry g c =
    let i = c.halves.invariant in
    let is = c.probe-entry.ensures.entry in
    let number = c.halves.low + (c.halves.high - c.halves.low) / 2 in
    record {
      spans = i.spans;
      ordered = omega arith;
      inside = omega (arith, i.inside);
      under = i.under;
      over = over_more c.args.table.now c.args.addr i.spans number c.probe-entry.result is c.if-addr-entry.true;
      halving = Halving-more _ _ (number - c.halves.low) _ _ _ i.halving (omega arith) (omega arith) c.probe-entry.ensures.step;
    }

pub halves-preserved : goal.halves-preserved
halves-preserved g c =
    let i = c.halves.invariant in
    let is = c.probe-entry.ensures.entry in
    let number = c.halves.low + (c.halves.high - c.halves.low) / 2 in
    record {
      spans = i.spans;
      ordered = omega arith;
      inside = i.inside;
      under = under_more c.args.table.now c.args.addr i.spans number c.probe-entry.result is (omega arith);
      over = i.over;
      halving = Halving-more _ _ (c.halves.high - (number + 1)) _ _ _ i.halving (omega arith) (omega arith) c.probe-entry.ensures.step;
    }

pub returns-then-addr-entry-2-clause-steps : goal.returns-then-addr-entry-2-clause-steps
returns-then-addr-entry-2-clause-steps g c =
    HalvesIn-of _ 0 _ _ (Halving-more _ _ 0 _ _ _ c.halves.invariant.halving (omega arith) (omega arith) c.probe-entry.ensures.step)

pub returns-clause-none : goal.returns-clause-none
returns-clause-none g c = λ _.
    let i = c.halves.invariant in
    spans_none c.args.table.now c.args.addr c.halves.low c.halves.high (omega arith) i.under i.over
