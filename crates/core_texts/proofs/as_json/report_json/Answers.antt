use Rattle.std.proofs.Common.{◌∙◌, ap}
use Rattle.serde_json.specs.Written.{has_float}
use Rattle.core_texts.proofs.Trees.{no_float}
use Rattle.core_texts.proofs.as_json.report_json.Goals as goal

pub pretty-requires : goal.pretty-requires
pretty-requires c = ap has_float c.in_ok-value.ensures ∙ no_float c.args.traces.now
