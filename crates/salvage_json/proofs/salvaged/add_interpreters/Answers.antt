use Rattle.serde_json.specs.View.{view}
use Rattle.salvage_json.specs.Salvaged.{interpreter_tree}
use Rattle.salvage_json.proofs.Lists.{one_more}
use Rattle.salvage_json.proofs.salvaged.add_interpreters.Goals as goal

pub loop-interpreter-preserved : goal.loop-interpreter-preserved
loop-interpreter-preserved c =
    one_more view (λ x. interpreter_tree c.args.kept.now c.args.crash c.args.names.now x) _ c.loop-interpreter.values.items _ _ c.args.interpreters.now
    c.loop-interpreter.interpreter-index c.interpreter-item.result c.interpreter-item.result c.loop-interpreter-test.true
    c.interpreter-item.is c.loop-interpreter.invariant c.in_ok-push.ensures.items c.in_ok-interpreter_value.ensures
