use Rattle.std.proofs.Common.{◌∙◌, ap, map}
use Rattle.std.proofs.lemmas.List.{take_all}
use Rattle.serde_json.specs.Data.{array}
use Rattle.serde_json.specs.View.{items_of}
use Rattle.serde_json.proofs.Views.{view-Array}
use Rattle.salvage_json.specs.Members.{standing_tree}
use Rattle.salvage_json.proofs.member.standings_value.Goals as goal

pub returns : goal.returns
returns c =
    view-Array c.loop-standing.own
    ∙ ap (λ ds. array (items_of ds)) (c.loop-standing.invariant
    ∙ ap (λ xs. map (λ x. standing_tree c.args.values.now x) xs) (take_all c.loop-standing.standing-index c.args.standings.now c.loop-standing-test.false))
