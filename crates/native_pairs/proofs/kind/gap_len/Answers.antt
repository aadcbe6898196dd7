use Rattle.std.proofs.Common.{◌∙◌, sym, arith, length}
use Rattle.std.proofs.lemmas.List.Sums.{prefix_len_is}
use Rattle.native_pairs.specs.Kinds.{is_gap}
use Rattle.native_pairs.proofs.kind.gap_len.Goals as goal

pub returns-then-not-is_gap : goal.returns-then-not-is_gap
returns-then-not-is_gap c = sym (prefix_len_is is_gap c.args.text.now c.loop-at.at 0 c.loop-at.auto.at-end
    (λ k h. c.loop-at.invariant k h) (λ _. sym c.is_gap.ensures ∙ c.if-not-is_gap.true))

pub returns : goal.returns
returns c = sym (prefix_len_is is_gap c.args.text.now (length c.args.text.now) 0 (omega arith)
    (λ k h. c.loop-at.invariant k (omega arith)) (λ h. absurd (omega arith)))
