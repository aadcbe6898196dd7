use Rattle.std.proofs.Common.{◌≡◌, rules, sym, ◌∙◌}
use Rattle.py_records.proofs.Versioning.{over-all, step-covered, step-passed}
use Rattle.py_records.proofs.tables.records_of.Goals as goal

pub loop-table-init : goal.loop-table-init
loop-table-init c =
    let whole : c.into_iter-table-iterator.result.iter.rest.now ≡ c.args.list.now = search rules in
    rw (c.no_records-found.ensures, whole) (over-all _ _)

pub loop-table-preserved-then-covers : goal.loop-table-preserved-then-covers
loop-table-preserved-then-covers c =
    step-covered _ _ c.in-Some.table.now c.args.version.now _ _ _ c.in-Some.ensures.steps (sym c.covers.ensures
    ∙ c.if-covers.true)
    c.joined-found.ensures c.loop-table.invariant

pub loop-table-preserved : goal.loop-table-preserved
loop-table-preserved c =
    step-passed _ _ c.in-Some.table.now c.args.version.now _ _ c.in-Some.ensures.steps (sym c.covers.ensures
    ∙ c.if-covers.false)
    c.loop-table.invariant
