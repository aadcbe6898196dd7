use Rattle.std.proofs.Common.{IfOk, Ok, Err, ◌≡◌, ◌∙◌, ap, length}
use Rattle.std.specs.List.{sum}
use Rattle.native_pairs.specs.Items.{merged_items, natives_in, numbers, pythons_in}
use Rattle.native_pairs.proofs.Items.{merged_natives, merged_pythons}
use Rattle.native_pairs.proofs.item.merged_items.Goals as goal

pub returns-clause-pythons : goal.returns-clause-pythons
returns-clause-pythons c =
    (elim c.merge.result as (λ r. IfOk r (λ items. items.items ≡ merged_items c.args.takes.now c.args.runs.now)
    → IfOk r (λ items. pythons_in items.items ≡ numbers (sum c.args.runs.now))) [
      | Ok items ↦ λ p. ap pythons_in p ∙ merged_pythons c.args.takes.now c.args.runs.now 0 0
      | Err e ↦ λ p. p
    ]) c.merge.ensures

pub returns-clause-natives : goal.returns-clause-natives
returns-clause-natives c =
    (elim c.merge.result as (λ r. IfOk r (λ items. items.items ≡ merged_items c.args.takes.now c.args.runs.now)
    → IfOk r (λ items. natives_in items.items ≡ numbers (length c.args.takes.now))) [
      | Ok items ↦ λ p. ap natives_in p ∙ merged_natives c.args.takes.now c.args.runs.now 0 0
      | Err e ↦ λ p. p
    ]) c.merge.ensures
