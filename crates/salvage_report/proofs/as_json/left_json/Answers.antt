use Rattle.std.proofs.Common.{◌∙◌, ap}
use Rattle.serde_json.specs.Written.{has_float}
use Rattle.salvage_report.proofs.NoFloat.{no_float}
use Rattle.salvage_report.proofs.as_json.left_json.Goals as goal

pub pretty-requires : goal.pretty-requires
pretty-requires c = ap has_float c.in_ok-value.ensures ∙ no_float c.args.limit c.args.left.now c.requires
