use Rattle.std.proofs.Common.{string_bytes}
use Rattle.memory_sections.specs.Text.{interpreter_text}
use Rattle.salvage_texts.proofs.Parts.{push_more}
use Rattle.memory_sections.proofs.text.push_all_names.Goals as goal

pub loop-interpreter-preserved : goal.loop-interpreter-preserved
loop-interpreter-preserved c =
    push_more (λ i. interpreter_text i) (string_bytes c.args.text.now) _ _ c.args.names.now
    c.loop-interpreter.interpreter-index c.interpreter-item.result c.interpreter-item.result c.loop-interpreter-test.true
    c.interpreter-item.is c.loop-interpreter.invariant c.in_ok-push_interpreter.ensures
