use Rattle.std.proofs.Common.{◌∙◌, ap, ◌++◌}
use Rattle.std.specs.List.{sum}
use Rattle.native_pairs.specs.declared.item.Item.TheVariants.{Beside}
use Rattle.native_pairs.specs.Items.{behind_mark, natives_in, pythons_in}
use Rattle.native_pairs.proofs.Items.{apart_natives, apart_pythons}
use Rattle.native_pairs.proofs.item.apart_items.Goals as goal

pub returns-clause-pythons : goal.returns-clause-pythons
returns-clause-pythons c = ap pythons_in
    (c.in_ok-push_behind.ensures ∙ ap (λ xs. xs ++ behind_mark Beside 0 (sum c.args.runs.now)) c.in_ok-items.ensures)
    ∙ apart_pythons c.args.frames c.args.runs.now

pub returns-clause-natives : goal.returns-clause-natives
returns-clause-natives c = ap natives_in
    (c.in_ok-push_behind.ensures ∙ ap (λ xs. xs ++ behind_mark Beside 0 (sum c.args.runs.now)) c.in_ok-items.ensures)
    ∙ apart_natives c.args.frames c.args.runs.now
