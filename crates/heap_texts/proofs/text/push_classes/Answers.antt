use Rattle.std.proofs.Common.{string_bytes}
use Rattle.heap_texts.specs.Lines.{class_line}
use Rattle.salvage_texts.proofs.Parts.{push_more}
use Rattle.heap_texts.proofs.text.push_classes.Goals as goal

pub loop-class-preserved : goal.loop-class-preserved
loop-class-preserved c =
    push_more (λ x. class_line x) (string_bytes c.args.text.now) _ _ c.args.classes.now
    c.loop-class.class-index c.class-item.result c.class-item.result c.loop-class-test.true
    c.class-item.is c.loop-class.invariant c.in_ok-push_class.ensures
