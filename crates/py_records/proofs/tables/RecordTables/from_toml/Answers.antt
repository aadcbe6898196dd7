use Rattle.py_records.specs.File.{IsRightFor}
use Rattle.py_records.proofs.Answering.{right-made, right-unique}
use Rattle.py_records.proofs.tables.RecordTables.from_toml.Goals as goal

made : (c : goal.After-of) → IsRightFor c.args.text.now c.of.result
made c = right-made _ _ c.of.result c.in_ok-tables_from_toml.ensures.ok c.of.ensures.value c.of.ensures.ok
    c.of.ensures.unsound c.of.ensures.clash c.of.ensures.errors

pub returns-clause-right : goal.returns-clause-right
returns-clause-right c = made c

pub returns-clause-only : goal.returns-clause-only
returns-clause-only c answer right other = right-unique _ _ answer (made c) right other
