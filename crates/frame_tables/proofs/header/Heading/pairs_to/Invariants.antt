use Rattle.std.proofs.Common.{◌-◌, ◌<◌, ◌≤◌}
use Rattle.frame_tables.specs.Headers.{pair_at}
use Rattle.frame_tables.proofs.header.Heading.pairs_to.Given as goal

abbrev pub invariant-halves : goal.invariant-halves
invariant-halves l = record {
  ordered : l.low ≤ l.high;
  inside : l.high ≤ l.self.count;
  last : 0 < l.low → (pair_at l.file l.self (l.low - 1)).first ≤ l.address;
  next : l.high < l.self.count → l.address < (pair_at l.file l.self l.high).first;
}

abbrev pub decreases-halves : goal.decreases-halves
decreases-halves l = l.high - l.low
