use Rattle.std.proofs.Common.{Some, ap, ◌∙◌}
use Rattle.py_records.specs.File.{is_other}
use Rattle.py_layout.proofs.FlawsFound.{find-names}
use Rattle.py_records.proofs.file.other_key.Goals as goal

pub returns-in-Some : goal.returns-in-Some
returns-in-Some c = ap Some c.as_str.ensures.value ∙ find-names is_other c.args.root.now.entries _ c.in-Some.ensures

pub returns-in-None : goal.returns-in-None
returns-in-None c = find-names is_other c.args.root.now.entries _ c.in-None.ensures
