use Rattle.std.proofs.Common.{string_bytes}
use Rattle.exception_texts.specs.LastText.{whole_text}
use Rattle.salvage_texts.proofs.Parts.{push_more}
use Rattle.exception_texts.proofs.last_text.push_exceptions.Goals as goal

pub loop-interpreter-preserved : goal.loop-interpreter-preserved
loop-interpreter-preserved c =
    push_more (λ x. whole_text x) (string_bytes c.args.text.now) _ _ c.args.exceptions.now c.loop-interpreter.interpreter-index
    c.interpreter-item.result c.interpreter-item.result c.loop-interpreter-test.true c.interpreter-item.is c.loop-interpreter.invariant
    c.in_ok-push_whole.ensures
