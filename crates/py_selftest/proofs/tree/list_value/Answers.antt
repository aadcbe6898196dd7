use Rattle.std.proofs.Common.{◌∙◌, ◌++◌, ap, append-nil, map, sym}
use Rattle.std.proofs.lemmas.List.{at_drop_all}
use Rattle.serde_json.specs.Data.{array}
use Rattle.serde_json.specs.View.{items_of, view}
use Rattle.serde_json.proofs.Views.{view-Array}
use Rattle.py_selftest.specs.Checking.{key_shown}
use Rattle.py_selftest.specs.Trees.{listed_from}
use Rattle.py_selftest.proofs.KeyTexts.{list_more}
use Rattle.py_selftest.proofs.tree.list_value.Goals as goal

pub loop-key-preserved : goal.loop-key-preserved
loop-key-preserved c = list_more c.args.keys.now c.loop-key.key-index _ c.args.listed c.loop-key.values.items _ _
    c.loop-key-test.true c.in_ok-add_listed.ensures c.loop-key.invariant

pub returns : goal.returns
unfolding listed_from
returns c =
    let shown = map view c.loop-key.values.items in
    view-Array c.loop-key.values
    ∙ ap (λ ds. array (items_of ds)) (sym (append-nil shown)
    ∙ ap (λ ds. shown ++ ds) (sym (at_drop_all (λ xs. listed_from c.args.listed (map key_shown xs)) c.args.keys.now
    c.loop-key.key-index c.loop-key-test.false)) ∙ c.loop-key.invariant)
