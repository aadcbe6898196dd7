use Rattle.std.proofs.Common.{◌∙◌}
use Rattle.py_process.proofs.Facts.{symbol_same}
use Rattle.py_process.proofs.process_info.PythonProcessInfo.symbol.Goals as goal

pub returns : goal.returns
returns g c = c.copied.ensures ∙ c.get_symbol.ensures ∙ symbol_same c.args.self.now c.args.symbol.now
