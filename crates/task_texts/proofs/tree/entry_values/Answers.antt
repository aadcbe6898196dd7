use Rattle.std.proofs.Common.{◌∙◌, ap, map, sym}
use Rattle.std.proofs.lemmas.List.{take_all}
use Rattle.std.proofs.lemmas.Simd.{map-map}
use Rattle.serde_json.specs.Data.{array}
use Rattle.serde_json.specs.View.{items_of}
use Rattle.serde_json.proofs.Views.{view-Array}
use Rattle.py_tasks.specs.Shown.{entry_shown}
use Rattle.task_texts.specs.Trees.{entry_tree}
use Rattle.task_texts.proofs.tree.entry_values.Goals as goal

pub returns : goal.returns
returns c =
    view-Array c.loop-entry.values
    ∙ ap (λ ds. array (items_of ds)) (c.loop-entry.invariant
    ∙ ap (λ xs. map (λ x. entry_tree (entry_shown x)) xs)
    (take_all c.loop-entry.entry-index c.args.entries.now c.loop-entry-test.false)
    ∙ sym (map-map (λ e. entry_tree e) entry_shown c.args.entries.now))
