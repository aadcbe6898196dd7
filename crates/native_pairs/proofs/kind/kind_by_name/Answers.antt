use Rattle.std.proofs.Common.{rules}
use Rattle.native_pairs.proofs.NamePieces.{kind_by_firsts}
use Rattle.native_pairs.proofs.kind.kind_by_name.Goals as goal

pub returns-then-is_evaluation : goal.returns-then-is_evaluation
returns-then-is_evaluation c = rw (kind_by_firsts c.args.name.now) (search (rules, c.first_piece.ensures))

pub returns-else-is_evaluation : goal.returns-else-is_evaluation
returns-else-is_evaluation c = rw (kind_by_firsts c.args.name.now) (search (rules, c.first_piece.ensures))

pub returns : goal.returns
returns c = rw (kind_by_firsts c.args.name.now) (search (rules, c.first_piece.ensures))
