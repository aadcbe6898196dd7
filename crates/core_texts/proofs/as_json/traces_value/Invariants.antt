use Rattle.std.proofs.Common.{◌≡◌, take, map}
use Rattle.serde_json.specs.View.{view}
use Rattle.core_texts.specs.Tree.{trace_tree}
use Rattle.core_texts.proofs.as_json.traces_value.Given as goal

abbrev pub invariant-loop-trace : goal.invariant-loop-trace
invariant-loop-trace l = map view l.values.items ≡ map (λ x. trace_tree x) (take l.trace-index l.traces)
