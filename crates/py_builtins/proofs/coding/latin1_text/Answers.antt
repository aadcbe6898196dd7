use Rattle.std.proofs.Common.{rules}
use Rattle.py_builtins.proofs.Codings.{answers_latin1}
use Rattle.py_builtins.proofs.coding.latin1_text.Goals as goal

pub returns : goal.returns
returns c = answers_latin1 _ _ _ c.in_ok-shared.ensures c.in_ok-text.ensures (search rules)
