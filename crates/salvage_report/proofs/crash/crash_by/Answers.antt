use Rattle.std.proofs.Common.{ap, ◌∙◌}
use Rattle.std.specs.Prelude.{option_and_then}
use Rattle.salvage_report.specs.Crashed.{told_by}
use Rattle.salvage_report.proofs.crash.crash_by.Goals as goal

pub returns-in-Some : goal.returns-in-Some
returns-in-Some c = c.crash_in.ensures ∙ ap (option_and_then (told_by c.args.machine)) c.in-Some.ensures

pub returns-in-None : goal.returns-in-None
returns-in-None c = ap (option_and_then (told_by c.args.machine)) c.in-None.ensures
