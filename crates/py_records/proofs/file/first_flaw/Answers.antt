use Rattle.std.proofs.Common.{◌∙◌, arith}
use Rattle.py_records.proofs.Filing.{first_flaw-hit, first_flaw-miss, first_flaw-end}
use Rattle.py_records.proofs.file.first_flaw.Goals as goal

pub returns-in-Some : goal.returns-in-Some
returns-in-Some c = first_flaw-hit _ c.args.list.now c.loop-table.table _ _ c.loop-table-test.true
    c.index-list-table.is c.in-Some.ensures ∙ c.loop-table.invariant

pub loop-table-preserved : goal.loop-table-preserved
loop-table-preserved c = first_flaw-miss _ c.args.list.now c.loop-table.table _ c.loop-table-test.true
    c.index-list-table.is c.in_default.ensures ∙ c.loop-table.invariant

pub returns : goal.returns
returns c = first_flaw-end _ c.args.list.now c.loop-table.table c.loop-table.table (omega arith)
    ∙ c.loop-table.invariant
