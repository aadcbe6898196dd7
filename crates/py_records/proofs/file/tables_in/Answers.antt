use Rattle.std.proofs.Common.{◌≡◌, ◌∙◌, ◌∷◌, [], ◌++◌, ap}
use Rattle.toml.specs.View.{table_view}
use Rattle.py_records.specs.Table.{table_from}
use Rattle.py_records.proofs.Filing.{tables-pushed, tables-kept, tables-end}
use Rattle.py_records.proofs.file.tables_in.Goals as goal
use Rattle.py_records.proofs.file.tables_in.Goals.{in-Some+in_ok-push, in_default}

pub returns : goal.returns
returns c = tables-end _ _ c.args.list.now c.loop-value.value-index c.loop-value-test.false c.loop-value.invariant

pub loop-value-preserved : goal.loop-value-preserved
loop-value-preserved c =
    elim c.match-as_table.branch [
      | in-Some+in_ok-push w ↦
          let new : c.match-as_table.tables.items ≡ c.loop-value.tables.items ++ table_from
          (table_view w.in-Some.table.now) ∷ [] =
          ap (λ v. v.items) w.tables-is ∙ w.in_ok-push.ensures.items
          ∙ ap (λ l. c.loop-value.tables.items ++ l ∷ []) w.table_from.ensures in
          tables-pushed _ _ _ c.args.list.now c.loop-value.value-index _ _ c.loop-value-test.true c.value-item.is
          w.in-Some.ensures new c.loop-value.invariant
      | in_default w ↦
          tables-kept _ _ _ c.args.list.now c.loop-value.value-index _ c.loop-value-test.true c.value-item.is
          w.in_default.ensures (ap (λ v. v.items) w.tables-is) c.loop-value.invariant
    ]
