use Rattle.std.proofs.Common.{◌∙◌, ◌++◌, ap, append-nil, map, sym}
use Rattle.std.proofs.lemmas.List.{at_drop_all}
use Rattle.serde_json.specs.Data.{array}
use Rattle.serde_json.specs.View.{items_of, view}
use Rattle.serde_json.proofs.Views.{view-Array}
use Rattle.missed_reads.specs.Told.{number_tree}
use Rattle.missed_reads.proofs.told.numbers_value.Goals as goal

pub returns : goal.returns
returns c =
    let shown = map view c.loop-number.values.items in
    view-Array c.loop-number.values
    ∙ ap (λ ds. array (items_of ds)) (sym (append-nil shown)
    ∙ ap (λ ds. shown ++ ds) (sym (at_drop_all (λ xs. map number_tree xs) c.args.numbers.now c.loop-number.number-index
    c.loop-number-test.false)) ∙ c.loop-number.invariant)
