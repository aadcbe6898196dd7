use Rattle.std.proofs.Common.{string_bytes}
use Rattle.exception_texts.specs.Values.{next_text}
use Rattle.salvage_texts.proofs.Parts.{push_more}
use Rattle.exception_texts.proofs.values.push_rest.Goals as goal

pub loop-value-preserved : goal.loop-value-preserved
loop-value-preserved c =
    push_more (λ x. next_text c.args.is_raw x) (string_bytes c.args.text.now) _ _ c.args.values.now c.loop-value.value-index
    c.value-item.result c.value-item.result c.loop-value-test.true c.value-item.is c.loop-value.invariant
    c.in_ok-push_next.ensures
