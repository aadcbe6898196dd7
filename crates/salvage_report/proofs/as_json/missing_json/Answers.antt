use Rattle.std.proofs.Common.{◌∙◌, ap}
use Rattle.serde_json.specs.Written.{has_float}
use Rattle.missed_reads.specs.Told.{told_of}
use Rattle.salvage_report.proofs.NoFloat.{missing_no_float}
use Rattle.salvage_report.proofs.as_json.missing_json.Goals as goal

pub pretty-requires : goal.pretty-requires
pretty-requires c = ap has_float c.in_ok-value.ensures ∙ missing_no_float (told_of c.args.misses.now)
