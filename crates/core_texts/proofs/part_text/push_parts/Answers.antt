use Rattle.core_texts.proofs.Padding.{push_more}
use Rattle.core_texts.proofs.part_text.push_parts.Goals as goal

pub loop-part-preserved : goal.loop-part-preserved
loop-part-preserved c =
    push_more c.args.text.now.items _ _ c.args.parts.now c.loop-part.part-index _ c.loop-part-test.true c.loop-part.invariant c.in_ok-push_part.ensures
