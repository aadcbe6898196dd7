use Rattle.std.proofs.Common.{◌≡◌, ◌++◌, map, take}
use Rattle.serde_json.specs.View.{view}
use Rattle.salvage_json.specs.Salvaged.{interpreter_tree}
use Rattle.salvage_json.proofs.salvaged.add_interpreters.Given as goal

abbrev pub invariant-loop-interpreter : goal.invariant-loop-interpreter
invariant-loop-interpreter l = map view l.values.items
    ≡ map view l.initial.values.items ++ map (λ x. interpreter_tree l.kept l.crash l.names x) (take l.interpreter-index l.interpreters)
