use Rattle.std.proofs.Common.{◌∙◌, ap, map}
use Rattle.std.proofs.lemmas.List.{take_all}
use Rattle.serde_json.specs.Data.{array}
use Rattle.serde_json.specs.View.{items_of}
use Rattle.serde_json.proofs.Views.{view-Array}
use Rattle.paired_stacks.specs.Trees.{stack_tree_if}
use Rattle.paired_stacks.proofs.Plain.{no_float}
use Rattle.paired_stacks.proofs.tree.paired_value.Goals as goal

pub returns-clause-value : goal.returns-clause-value
returns-clause-value c =
    view-Array c.loop-stack.values
    ∙ ap (λ ds. array (items_of ds)) (c.loop-stack.invariant
    ∙ ap (λ xs. map (λ x. stack_tree_if x) xs)
    (take_all c.loop-stack.stack-index c.args.stacks.now c.loop-stack-test.false))

pub returns-clause-no_float : goal.returns-clause-no_float
returns-clause-no_float c = no_float c.args.stacks.now

pub returns-in_err-known_value-clause-no_float : goal.returns-in_err-known_value-clause-no_float
returns-in_err-known_value-clause-no_float c = no_float c.args.stacks.now

pub returns-in_err-push-clause-no_float : goal.returns-in_err-push-clause-no_float
returns-in_err-push-clause-no_float c = no_float c.args.stacks.now
