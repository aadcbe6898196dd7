use Rattle.std.proofs.Common.{◌∙◌, ap}
use Rattle.serde_json.specs.Data.{object}
use Rattle.serde_json.proofs.Views.{view-Object}
use Rattle.salvage_report.specs.Tree.{with_last}
use Rattle.salvage_report.proofs.Members.{last_placed}
use Rattle.salvage_report.proofs.as_json.left_value.Goals as goal

pub returns : goal.returns
returns c =
    let left = c.args.left.now in
    view-Object c.put_last.new.map
    ∙ ap (λ ms. object ms) (c.in_ok-put_last.ensures ∙ ap (λ ms. with_last left ms) c.in_ok-map.ensures)
    ∙ last_placed c.args.limit left
