use Rattle.std.proofs.Common.{rules}
use Rattle.py_records.proofs.Soundness.{records_sound}
use Rattle.py_records.proofs.tables.RecordTables.records_of.Goals as goal

pub returns-clause-value : goal.returns-clause-value
returns-clause-value c = search rules

pub returns-clause-sound : goal.returns-clause-sound
returns-clause-sound c = rw (returns-clause-value c) (records_sound _ _ (rw c.self.view_is at c.self.invariant.each))
