use Rattle.missed_reads.proofs.Empty.{adds_empty}
use Rattle.missed_reads.proofs.misses.Misses.add.Goals as goal

pub returns-then-len-eq0 : goal.returns-then-len-eq0
returns-then-len-eq0 c = adds_empty c.args.self.now c.args.addr c.args.len c.if-len-eq0.true
