use Rattle.std.proofs.Common.{string_bytes}
use Rattle.heap_texts.specs.Text.{whole_text}
use Rattle.salvage_texts.proofs.Parts.{push_more}
use Rattle.heap_texts.proofs.text.push_wholes.Goals as goal

pub loop-class-preserved : goal.loop-class-preserved
loop-class-preserved c =
    push_more (λ x. whole_text x) (string_bytes c.args.text.now) _ _ c.args.classes.now
    c.loop-class.class-index c.class-item.result c.class-item.result c.loop-class-test.true
    c.class-item.is c.loop-class.invariant c.in_ok-push_whole.ensures
