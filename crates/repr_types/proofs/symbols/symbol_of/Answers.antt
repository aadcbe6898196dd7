use Rattle.std.proofs.Common.{◌∙◌}
use Rattle.py_process.proofs.Facts.{symbol_same}
use Rattle.repr_types.proofs.symbols.symbol_of.Goals as goal

pub returns : goal.returns
returns g c = c.copied.ensures ∙ c.get_symbol.ensures ∙ symbol_same c.args.info.now c.args.name.now
