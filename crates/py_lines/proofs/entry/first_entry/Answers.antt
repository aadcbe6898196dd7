use Rattle.std.proofs.Common.{rules}
use Rattle.py_lines.specs.Entries.{first_entry}
use Rattle.py_lines.proofs.entry.first_entry.Goals as goal

pub returns-in-Pairs-clause-value : goal.returns-in-Pairs-clause-value
unfolding first_entry
returns-in-Pairs-clause-value c = search rules

pub returns-in-Ranges-clause-value : goal.returns-in-Ranges-clause-value
unfolding first_entry
returns-in-Ranges-clause-value c = search rules

pub returns-in-Locations-clause-value : goal.returns-in-Locations-clause-value
unfolding first_entry
returns-in-Locations-clause-value c = search rules
