use Rattle.std.proofs.Common.{◌≡◌, ◌∙◌, ◌∷◌, [], ◌++◌, ap}
use Rattle.toml.specs.View.{table_view}
use Rattle.py_layout.specs.Reading.{layout_from}
use Rattle.py_layout.proofs.Filing.{layouts-pushed, layouts-kept, layouts-end}
use Rattle.py_layout.proofs.file.layouts_in.Goals as goal
use Rattle.py_layout.proofs.file.layouts_in.Goals.{in-Some+in_ok-push, in_default}

pub returns : goal.returns
returns c = layouts-end _ _ c.args.list.now c.loop-value.value-index c.loop-value-test.false c.loop-value.invariant

pub loop-value-preserved : goal.loop-value-preserved
loop-value-preserved c =
    elim c.match-as_table.branch [
      | in-Some+in_ok-push w ↦
          let new : c.match-as_table.layouts.items ≡ c.loop-value.layouts.items ++ layout_from (table_view w.in-Some.table.now) ∷ [] =
          ap (λ v. v.items) w.layouts-is ∙ w.in_ok-push.ensures.items ∙ ap (λ l. c.loop-value.layouts.items ++ l ∷ []) w.layout_from.ensures in
          layouts-pushed _ _ _ c.args.list.now c.loop-value.value-index _ _ c.loop-value-test.true c.value-item.is w.in-Some.ensures new c.loop-value.invariant
      | in_default w ↦
          layouts-kept _ _ _ c.args.list.now c.loop-value.value-index _ c.loop-value-test.true c.value-item.is w.in_default.ensures (ap (λ v. v.items) w.layouts-is) c.loop-value.invariant
    ]
