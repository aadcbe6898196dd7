use Rattle.std.proofs.Common.{string_bytes}
use Rattle.salvage_texts.specs.Salvaged.{interpreter_text}
use Rattle.salvage_texts.proofs.Parts.{push_more}
use Rattle.salvage_texts.proofs.interpreter.push_interpreters.Goals as goal

pub loop-interpreter-preserved : goal.loop-interpreter-preserved
loop-interpreter-preserved c =
    push_more (λ x. interpreter_text c.args.values.now c.args.is_several c.args.crash c.args.names.now x) (string_bytes c.args.text.now) _ _
    c.args.interpreters.now c.loop-interpreter.interpreter-index c.interpreter-item.result
    c.interpreter-item.result c.loop-interpreter-test.true c.interpreter-item.is c.loop-interpreter.invariant
    c.in_ok-push_interpreter.ensures
