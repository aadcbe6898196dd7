use Rattle.std.proofs.Common.{◌∙◌, ap, map}
use Rattle.std.proofs.lemmas.List.{take_all}
use Rattle.serde_json.specs.Data.{array}
use Rattle.serde_json.specs.View.{items_of}
use Rattle.serde_json.proofs.Views.{view-Array}
use Rattle.task_texts.specs.Trees.{member_tree}
use Rattle.task_texts.proofs.tree.members_value.Goals as goal

pub returns : goal.returns
returns c =
    view-Array c.loop-member.values
    ∙ ap (λ ds. array (items_of ds)) (c.loop-member.invariant
    ∙ ap (λ xs. map (λ x. member_tree x) xs) (take_all c.loop-member.member-index c.args.members.now c.loop-member-test.false))
