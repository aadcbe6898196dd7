use Rattle.std.proofs.Common.{rules, arith, refl}
use Rattle.core_unwind.proofs.WordLaws.{swapped_is, swapped_none}
use Rattle.core_unwind.proofs.expression.swapped.Goals as goal

pub returns-then-stack-lt2 : goal.returns-then-stack-lt2
returns-then-stack-lt2 c = swapped_none c.args.stack.words c.args.stack.depth (omega arith)

pub returns : goal.returns
returns c = swapped_is c.args.stack.words c.args.stack.depth _ _ (omega arith) (first_of (
  omega arith,
  search
      rules,
)) refl refl
