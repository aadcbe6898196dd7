use Rattle.std.proofs.Common.{inl, inr, arith}
use Rattle.native_merge.proofs.MergeEnds.{ends_zero, ends_well, ends_badly}
use Rattle.native_merge.proofs.merge.finish.Goals as goal
use Rattle.native_merge.proofs.merge.finish.Goals.{then-cursor-count-via-then-cursor-count}
use Rattle.native_merge.proofs.merge.finish.Goals.{then-cursor-count-via-else-cursor-count+then-cursor-count-2}

pub returns-then-cursor-eq0 : goal.returns-then-cursor-eq0
returns-then-cursor-eq0 c = inr (λ exists items g. ends_zero g c.add_copies.new.made.items c.if-cursor-eq0.true c.in_ok-add_copies.ensures.added)

pub returns-then-cursor-count : goal.returns-then-cursor-count
returns-then-cursor-count c = inr (λ exists items g. ends_well g (omega arith) (omega arith) (elim c.then-cursor-count.branch [
  | then-cursor-count-via-then-cursor-count w ↦ inl (omega arith)
  | then-cursor-count-via-else-cursor-count+then-cursor-count-2 w ↦ inr (omega arith)
]))

pub returns : goal.returns
returns c = inr (λ exists items g. ends_badly g (omega arith) (omega arith) (λ e. omega arith) (λ e. omega arith))
