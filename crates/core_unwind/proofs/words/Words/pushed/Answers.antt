use Rattle.std.proofs.Common.{rules, arith}
use Rattle.core_unwind.proofs.WordLaws.{pushed_is}
use Rattle.core_unwind.proofs.words.Words.pushed.Goals as goal

pub returns : goal.returns
returns c = pushed_is c.args.self.words c.args.self.depth c.args.word (first_of (search rules, omega arith)) (omega
    arith)
