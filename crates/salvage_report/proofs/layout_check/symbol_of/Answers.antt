use Rattle.std.proofs.Common.{◌∙◌}
use Rattle.py_process.proofs.Facts.{symbol_same}
use Rattle.salvage_report.proofs.layout_check.symbol_of.Goals as goal

pub returns : goal.returns
returns c = c.copied.ensures ∙ c.get_symbol.ensures ∙ symbol_same c.args.process.now.info c.args.name.now
