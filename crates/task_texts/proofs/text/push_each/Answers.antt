use Rattle.std.proofs.Common.{string_bytes}
use Rattle.task_texts.specs.Text.{interpreter_text}
use Rattle.salvage_texts.proofs.Parts.{push_more}
use Rattle.task_texts.proofs.text.push_each.Goals as goal

pub loop-interpreter-preserved : goal.loop-interpreter-preserved
loop-interpreter-preserved c =
    push_more (λ i. interpreter_text c.args.are_several i) (string_bytes c.args.text.now) _ _ c.args.tasks.now
    c.loop-interpreter.interpreter-index c.interpreter-item.result c.interpreter-item.result c.loop-interpreter-test.true
    c.interpreter-item.is c.loop-interpreter.invariant c.in_ok-push_interpreter.ensures
