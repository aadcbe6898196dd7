use Rattle.std.proofs.Common.{◌∙◌, ap, map}
use Rattle.std.proofs.lemmas.List.{take_all}
use Rattle.serde_json.specs.Data.{array}
use Rattle.serde_json.specs.View.{items_of}
use Rattle.serde_json.proofs.Views.{view-Array}
use Rattle.exception_texts.specs.LastTrees.{interpreter_tree}
use Rattle.exception_texts.proofs.last_tree.exceptions_value.Goals as goal

pub returns : goal.returns
returns c =
    view-Array c.loop-interpreter.own
    ∙ ap (λ ds. array (items_of ds)) (c.loop-interpreter.invariant
    ∙ ap (λ xs. map (λ x. interpreter_tree x) xs)
    (take_all c.loop-interpreter.interpreter-index c.args.exceptions.now c.loop-interpreter-test.false))
