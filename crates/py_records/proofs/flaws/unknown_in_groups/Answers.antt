use Rattle.std.proofs.Common.{Option, List, ℕ, sym, ◌∙◌, arith}
use Rattle.toml.specs.View.{table_view}
use Rattle.py_layout.proofs.FlawsFound.{first_of-map, first_of-miss, first_of-hit, first_of-end}
use Rattle.py_records.specs.declared.keys.Key.{Key}
use Rattle.py_records.specs.Keys.{key_of}
use Rattle.py_records.proofs.FlawLists.{group_flaw}
use Rattle.py_records.proofs.flaws.unknown_in_groups.Goals as goal

pub returns-in-Some : goal.returns-in-Some
returns-in-Some c =
    let at : Key → Option (List ℕ) = group_flaw c.args.keys.now (table_view c.args.table.now) in
    sym (first_of-hit at c.args.keys.now c.loop-key.key-index _ _ c.loop-key-test.true (sym c.in-Some.ensures))
    ∙ c.loop-key.invariant ∙ sym (first_of-map key_of _ c.args.keys.now)

pub loop-key-preserved : goal.loop-key-preserved
loop-key-preserved c =
    let at : Key → Option (List ℕ) = group_flaw c.args.keys.now (table_view c.args.table.now) in
    first_of-miss at c.args.keys.now c.loop-key.key-index _ c.loop-key-test.true (sym c.in_default.ensures)
    ∙ c.loop-key.invariant

pub returns : goal.returns
returns c =
    let at : Key → Option (List ℕ) = group_flaw c.args.keys.now (table_view c.args.table.now) in
    sym (first_of-end at c.args.keys.now c.loop-key.key-index (omega arith)) ∙ c.loop-key.invariant
    ∙ sym (first_of-map key_of _ c.args.keys.now)
